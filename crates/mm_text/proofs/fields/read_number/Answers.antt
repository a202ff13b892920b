use Rattle.std.proofs.Common.{◌∙◌, ◌≤◌, sym, subst, length, arith, List, ℕ}
use Rattle.std.specs.Str.Parse.{ParsesUnsigned}
use Rattle.mm_text.proofs.NumberLemmas.{number-bytes, number-long, number-plus, no_plus, number-parsed}
use Rattle.mm_text.proofs.fields.read_number.Goals as goal
use Rattle.mm_text.proofs.fields.read_number.Goals.{then-word-most-via-then-word-most, then-word-most-via-else-word-most+then-starts_with}

pub returns-in-Err : goal.returns-in-Err
returns-in-Err c = sym (number-bytes c.args.base c.args.most c.args.word.now c.requires.high c.in-Err.ensures.cases.0)

pub returns-in-Ok : goal.returns-in-Ok
returns-in-Ok c =
    let few : length c.args.word.now ≤ c.args.most = omega arith in
    let P : List ℕ → Type 0 = λ t. ParsesUnsigned 64 c.args.base t c.from_str_radix.result in
    c.ok.ensures.value
    ∙ number-parsed c.args.base c.args.most c.args.word.now c.from_str_radix.result c.requires.low c.requires.small few
    (no_plus c.args.word.now (sym c.starts_with.ensures.value ∙ c.if-starts_with.false))
    (subst P c.in-Ok.ensures.cases.0 c.from_str_radix.ensures.value)

pub returns-then-word-most : goal.returns-then-word-most
returns-then-word-most c =
    sym (elim c.then-word-most.branch [
      | then-word-most-via-then-word-most w ↦ number-long c.args.base c.args.most c.args.word.now (omega arith)
      | then-word-most-via-else-word-most+then-starts_with w ↦
          number-plus c.args.base c.args.most c.args.word.now c.requires.high (sym w.starts_with.ensures.value ∙ w.if-starts_with.true)
    ])
