use Rattle.std.proofs.Common.{ℕ, List, map, Err, Bor, ap, sym, ◌∙◌}
use Rattle.std.proofs.lemmas.Result.{err_from_is_err_and}
use Rattle.mm_text.specs.ScriptText.{words_of}
use Rattle.mm_text.proofs.ReaderLemmas.{IsHeaded, faulty-end, faulty-range, goes-accepted}
use Rattle.mm_text.proofs.script_reader.take_line.Goals as goal

pub returns-in_err-words-clause-refused : goal.returns-in_err-words-clause-refused
returns-in_err-words-clause-refused c =
    let p = err_from_is_err_and c.from_residual.result c.from_residual.ensures.1 in
    rw (p.1, p.2) (λ before stands. tt)

pub returns-in_err-said-clause-refused : goal.returns-in_err-said-clause-refused
returns-in_err-said-clause-refused c =
    let p = err_from_is_err_and c.from_residual-in_err-said.result c.from_residual-in_err-said.ensures.1 in
    let h : IsHeaded c.args.handlers (words_of c.args.line.now) c.in-Some-keyword_in.keyword c.args.builder.now = record {
      word = c.in-Some.first.now;
      there = c.in-Some.ensures;
      said = sym c.begins_comment.ensures ∙ c.if-begins_comment.false;
      named = c.in-Some-keyword_in.ensures.found;
      stands = sym c.may_stand.ensures ∙ c.if-not-may_stand.false;
    } in
    let same = ap (map (λ (word : Bor (List ℕ)). word.now)) c.as_slice.ensures.value ∙ c.in_ok-words.ensures in
    rw (p.1, p.2)
    (faulty-end c.args.handlers (words_of c.args.line.now) _ c.in-Some-keyword_in.keyword c.args.builder.now h same c.in_err-said.field-0.0
    (λ e. c.in_err-said.ensures.words (ap Err e)) (λ e. c.in_err-said.ensures.form (ap Err e)) (λ e. c.in_err-said.ensures.number (ap Err e)))

pub returns-then-not-accepts-clause-refused : goal.returns-then-not-accepts-clause-refused
returns-then-not-accepts-clause-refused c =
    let h : IsHeaded c.args.handlers (words_of c.args.line.now) c.in-Some-keyword_in.keyword c.args.builder.now = record {
      word = c.in-Some.first.now;
      there = c.in-Some.ensures;
      said = sym c.begins_comment.ensures ∙ c.if-begins_comment.false;
      named = c.in-Some-keyword_in.ensures.found;
      stands = sym c.may_stand.ensures ∙ c.if-not-may_stand.false;
    } in
    let same = ap (map (λ (word : Bor (List ℕ)). word.now)) c.as_slice.ensures.value ∙ c.in_ok-words.ensures in
    faulty-range c.args.handlers (words_of c.args.line.now) _ c.in-Some-keyword_in.keyword c.args.builder.now h same c.in_ok-said.said c.in_ok-said.ensures.ok
    (sym c.accepts.ensures ∙ c.if-not-accepts.true)

pub returns-in_err-take-clause-refused : goal.returns-in_err-take-clause-refused
returns-in_err-take-clause-refused c =
    let p = err_from_is_err_and c.from_residual-in_err-take.result c.from_residual-in_err-take.ensures.1 in
    rw (p.1, p.2) (λ before stands. tt)

pub returns-clause-on : goal.returns-clause-on
returns-clause-on c =
    let h : IsHeaded c.args.handlers (words_of c.args.line.now) c.in-Some-keyword_in.keyword c.args.builder.now = record {
      word = c.in-Some.first.now;
      there = c.in-Some.ensures;
      said = sym c.begins_comment.ensures ∙ c.if-begins_comment.false;
      named = c.in-Some-keyword_in.ensures.found;
      stands = sym c.may_stand.ensures ∙ c.if-not-may_stand.false;
    } in
    let same = ap (map (λ (word : Bor (List ℕ)). word.now)) c.as_slice.ensures.value ∙ c.in_ok-words.ensures in
    goes-accepted c.args.handlers (words_of c.args.line.now) _ c.in-Some-keyword_in.keyword c.args.builder.now c.take.new.self h same c.in_ok-said.said c.in_ok-said.ensures.ok
    (sym c.accepts.ensures ∙ c.if-not-accepts.false) c.in_ok-take.ensures.behind
