use Rattle.std.proofs.Common.{◌≡◌, ◌+◌, None, Ok, Err, sym, ap, ◌∙◌, subst, arith, rules}
use Rattle.volume_reader.specs.Sections.{Walk, body_of, given_next}
use Rattle.volume_reader.proofs.SectionWalkLemmas.{same_body, same_begin}
use Rattle.volume_reader.proofs.SectionNumberLemmas.{Skipped, skipped_next, answered_end, answered_none, answered_fault, some_exactly, none_exactly, fault_exactly}
use Rattle.volume_reader.proofs.section_of_file.sections.Goals as goal

pub returns-in_err-next_section : goal.returns-in_err-next_section
returns-in_err-next_section c =
    let body = body_of c.args.bytes.now c.args.file.now in
    let begin = c.args.file.now.body_at in
    let walk = c.loop-before.walk in
    let i = c.loop-before.invariant in
    let e : c.from_residual.result ≡ Err c.in_err-next_section.field-0.0 = search rules in
    let given : given_next walk ≡ Err c.in_err-next_section.field-0.0 = sym c.in_err-next_section.ensures.given in
    let answered = answered_fault walk body begin c.loop-before.before c.args.index _ _ i.skipped i.body i.begin i.within given e in
    record {
      some = some_exactly _ _ _ _ answered;
      none = none_exactly _ _ _ _ answered;
      fault = fault_exactly _ _ _ _ answered;
    }

pub returns-then-is_none : goal.returns-then-is_none
returns-then-is_none c =
    let body = body_of c.args.bytes.now c.args.file.now in
    let begin = c.args.file.now.body_at in
    let walk = c.loop-before.walk in
    let i = c.loop-before.invariant in
    let none : c.in_ok-next_section.field-0 ≡ None = search rules in
    let given : given_next walk ≡ Ok None = sym c.in_ok-next_section.ensures.given ∙ ap Ok none in
    let answered = answered_none walk body begin c.loop-before.before c.args.index i.skipped i.body i.begin i.within given in
    record {
      some = some_exactly _ _ _ _ answered;
      none = none_exactly _ _ _ _ answered;
      fault = fault_exactly _ _ _ _ answered;
    }

pub loop-before-preserved : goal.loop-before-preserved
loop-before-preserved c =
    let walk = c.loop-before.walk in
    let i = c.loop-before.invariant in
    let after = c.in_ok-next_section.ensures.after in
    let P : Walk → Type 0 = λ walk. Skipped walk (c.loop-before.before + 1) in
    record {
      body = ap (λ (walk : Walk). walk.body) after ∙ same_body walk ∙ i.body;
      begin = ap (λ (walk : Walk). walk.begin) after ∙ same_begin walk ∙ i.begin;
      skipped = subst P (sym after) (skipped_next walk c.loop-before.before _ i.skipped (sym c.in_ok-next_section.ensures.given) c.if-is_none.ensures);
      within = omega arith;
    }

pub returns : goal.returns
returns c =
    let body = body_of c.args.bytes.now c.args.file.now in
    let begin = c.args.file.now.body_at in
    let walk = c.loop-before.walk in
    let i = c.loop-before.invariant in
    let many : c.loop-before.before ≡ c.args.index = omega (arith, i.within) in
    let answered = answered_end walk body begin c.loop-before.before c.args.index _ i.skipped i.body i.begin many c.next_section-2.ensures.given in
    record {
      some = some_exactly _ _ _ _ answered;
      none = none_exactly _ _ _ _ answered;
      fault = fault_exactly _ _ _ _ answered;
    }
