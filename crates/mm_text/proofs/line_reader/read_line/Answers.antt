use Rattle.std.proofs.Common.{arith}
use Rattle.mm_text.proofs.ReadLemmas.{is_behind, read_ok, read_words, read_form, read_number}
use Rattle.mm_text.proofs.line_reader.read_line.Goals as goal

pub returns-clause-ok : goal.returns-clause-ok
returns-clause-ok c =
    read_ok c.args.keyword _ _ c.read_behind.result (is_behind (λ w. w.now) c.args.words.now c.args.keyword (omega arith) c.requires) c.read_behind.ensures

pub returns-clause-words : goal.returns-clause-words
returns-clause-words c =
    read_words c.args.keyword _ _ c.read_behind.result (is_behind (λ w. w.now) c.args.words.now c.args.keyword (omega arith) c.requires) c.read_behind.ensures

pub returns-clause-form : goal.returns-clause-form
returns-clause-form c =
    read_form c.args.keyword _ _ c.read_behind.result (is_behind (λ w. w.now) c.args.words.now c.args.keyword (omega arith) c.requires) c.read_behind.ensures

pub returns-clause-number : goal.returns-clause-number
returns-clause-number c =
    read_number c.args.keyword _ _ c.read_behind.result (is_behind (λ w. w.now) c.args.words.now c.args.keyword (omega arith) c.requires) c.read_behind.ensures
