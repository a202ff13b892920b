use Rattle.std.proofs.Common.{sym, ◌∙◌}
use Rattle.mm_text.proofs.ReadLemmas.{keyword_found, keyword_none, keyword_refused}
use Rattle.mm_text.proofs.keyword.keyword_in.Goals as goal

pub returns-in_err-keyword-clause-none : goal.returns-in_err-keyword-clause-none
returns-in_err-keyword-clause-none c = λ _.
    keyword_none c.args.handlers c.args.word.now (sym c.spelled.ensures ∙ c.in_err-keyword.was)

pub returns-then-is_said-clause-found : goal.returns-then-is_said-clause-found
returns-then-is_said-clause-found c =
    keyword_found c.args.handlers c.in_ok-keyword.keyword c.args.word.now (sym c.spelled.ensures ∙ c.in_ok-keyword.was)
    (sym c.is_said.ensures ∙ c.if-is_said.true)

pub returns-else-is_said-clause-none : goal.returns-else-is_said-clause-none
returns-else-is_said-clause-none c = λ _.
    keyword_refused c.args.handlers c.in_ok-keyword.keyword c.args.word.now (sym c.spelled.ensures ∙ c.in_ok-keyword.was)
    (sym c.is_said.ensures ∙ c.if-is_said.false)
