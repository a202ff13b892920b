use Rattle.std.proofs.Common.{◌≡◌, Ok, Some, None, IfOk, IfErr, sym, ap, ◌∙◌, rules}
use Rattle.volume_reader.specs.Sections.{Walk, given_next, HasRefusedSection}
use Rattle.volume_reader.specs.Search.{HasFirstSection}
use Rattle.volume_reader.proofs.SectionWalkLemmas.{same_body, same_begin}
use Rattle.volume_reader.proofs.SearchLemmas.{sought_more, sought_end, sought_found, sought_first}
use Rattle.volume_reader.proofs.section_search.first_of.Goals as goal

pub returns-in_err-section-clause-found : goal.returns-in_err-section-clause-found
returns-in_err-section-clause-found c =
    let bytes = c.args.bytes.now in
    let file = c.args.file.now in
    let ok : IfOk c.from_residual.result (HasFirstSection bytes file c.args.kind) = search rules in
    let err : IfErr c.from_residual.result (HasRefusedSection bytes file) = search rules in
    sought_found bytes file c.args.kind c.from_residual.result ok err

pub returns-in_err-section-clause-first : goal.returns-in_err-section-clause-first
returns-in_err-section-clause-first c =
    let bytes = c.args.bytes.now in
    let file = c.args.file.now in
    let ok : IfOk c.from_residual.result (HasFirstSection bytes file c.args.kind) = search rules in
    let err : IfErr c.from_residual.result (HasRefusedSection bytes file) = search rules in
    sought_first bytes file c.args.kind c.from_residual.result ok err

pub loop-section-preserved : goal.loop-section-preserved
loop-section-preserved c =
    let walk = c.loop-section.walk in
    let i = c.loop-section.invariant in
    let after = c.in_ok-section.ensures.after in
    let given : given_next walk ≡ Ok (Some c.in-Some.section) = sym c.in_ok-section.ensures.given ∙ ap Ok c.in-Some.is in
    record {
      body = ap (λ (walk : Walk). walk.body) after ∙ same_body walk ∙ i.body;
      begin = ap (λ (walk : Walk). walk.begin) after ∙ same_begin walk ∙ i.begin;
      sought = sought_more walk _ c.args.kind _ _ _ i.sought given after c.first_among-found.ensures;
    }

pub returns-clause-found : goal.returns-clause-found
returns-clause-found c =
    let bytes = c.args.bytes.now in
    let file = c.args.file.now in
    let walk = c.loop-section.walk in
    let i = c.loop-section.invariant in
    let none : c.in_ok-section.field-0 ≡ None = search rules in
    let given : given_next walk ≡ Ok None = sym c.in_ok-section.ensures.given ∙ ap Ok none in
    sought_found bytes file c.args.kind (Ok c.loop-section.found) (sought_end bytes file walk c.args.kind _ i.body i.begin i.sought given) tt

pub returns-clause-first : goal.returns-clause-first
returns-clause-first c =
    let bytes = c.args.bytes.now in
    let file = c.args.file.now in
    let walk = c.loop-section.walk in
    let i = c.loop-section.invariant in
    let none : c.in_ok-section.field-0 ≡ None = search rules in
    let given : given_next walk ≡ Ok None = sym c.in_ok-section.ensures.given ∙ ap Ok none in
    sought_first bytes file c.args.kind (Ok c.loop-section.found) (sought_end bytes file walk c.args.kind _ i.body i.begin i.sought given) tt
