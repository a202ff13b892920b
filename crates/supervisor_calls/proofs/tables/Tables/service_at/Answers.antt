use Rattle.std.proofs.Common.{◌+◌, ◌^◌, ◌≤◌, ◌∙◌, All, ap, sym, subst}
use Rattle.image_table.specs.HomeRanges.{IsPlaced}
use Rattle.mm_base.specs.declared.range.Range.{Range}
use Rattle.supervisor_calls.specs.Accesses.{service_at, service_of}
use Rattle.supervisor_calls.specs.Tables.{TablesState}
use Rattle.supervisor_calls.proofs.TableLemmas.{stands, addressable, page_fits, service_told}
use Rattle.supervisor_calls.proofs.tables.Tables.service_at.Goals as goal

pub service_page-requires : goal.service_page-requires
service_page-requires g c =
    let P : TablesState → Type 0 = λ tables. All IsPlaced tables.site.images in
    addressable _ (subst P (sym c.self.view_is) c.keeps.ensures.placed) _ _ (stands c.self.inside.images c.args.image c.base.result c.pages.result c.base.ensures c.pages.ensures)

pub service_in-requires : goal.service_in-requires
service_in-requires g c =
    let P : TablesState → Type 0 = λ tables. All IsPlaced tables.site.images in
    let fits = addressable _ (subst P (sym c.self.view_is) c.keeps.ensures.placed) _ _ (stands c.self.inside.images c.args.image c.base.result c.pages.result c.base.ensures c.pages.ensures) in
    let Q : Range → Type 0 = λ page. page.base + 4096 ≤ 2 ^ 64 in
    subst Q (sym c.service_page.ensures) (page_fits _ fits)

pub returns-clause-value : goal.returns-clause-value
returns-clause-value g c =
    c.service_in.ensures.value ∙ ap (λ (page : Range). service_at page.base c.args.at) c.service_page.ensures
    ∙ service_told _ _ _ c.args.at (stands c.self.inside.images c.args.image c.base.result c.pages.result c.base.ensures c.pages.ensures)
    ∙ ap (λ (tables : TablesState). service_of tables.site c.args.image c.args.at) c.self.view_is
