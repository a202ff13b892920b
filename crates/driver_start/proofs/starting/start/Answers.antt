use Rattle.std.proofs.Common.{◌∙◌, refl, ap, sym, arith}
use Rattle.driver_start.specs.Starts.{DriverState, started}
use Rattle.driver_start.specs.declared.starting.StartEnd.TheVariants.{TooMany, NoPages}
use Rattle.driver_start.proofs.CodeLemmas as lemmas
use Rattle.driver_start.proofs.StartLemmas.{too_many}
use Rattle.driver_start.proofs.starting.start.Goals as goal

pub returns-then-images-eq-MOST_IMAGES : goal.returns-then-images-eq-MOST_IMAGES
returns-then-images-eq-MOST_IMAGES g c loadable is =
    (λ i. ((TooMany, c.in_ok-records.ensures i), record { tables = c.host.inside.tables; taken = c.host.inside.taken }))
    ∙ too_many (record { tables = c.host.inside.tables; taken = c.host.inside.taken }) loadable
    (omega (arith, c.images.ensures.value, c.if-images-eq-MOST_IMAGES.true))
    ∙ ap (started loadable) c.host.view_is

pub returns-in-None : goal.returns-in-None
returns-in-None g c loadable is =
    (λ i. ((NoPages, c.in_ok-records.records), record { tables = c.host.inside.tables; taken = c.in-None.ensures.unchanged i }))
    ∙ lemmas.none_then (record { tables = c.host.inside.tables; taken = c.host.inside.taken }) c.host.invariant c.keeps_order.ensures.orderly c.args.driver.now c.requires
    c.driver.inside.image (ap (λ (d : DriverState). d.image) c.driver.view_is) (omega (arith, c.images.ensures.value, c.images.ensures.most, c.if-images-eq-MOST_IMAGES.false)) c.pages_for-pages.result c.pages_for-pages.ensures
    (c.in-None.ensures.none.0 refl) c.in_ok-records.records c.in_ok-records.ensures loadable is
    ∙ ap (started loadable) c.host.view_is

pub invoke_entry-requires-clause-some : goal.invoke_entry-requires-clause-some
invoke_entry-requires-clause-some g c =
    lemmas.some_image (record { tables = c.host.inside.tables; taken = c.host.inside.taken }) c.host.invariant c.keeps_order.ensures.orderly c.args.driver.now c.requires
    c.driver.inside.image (ap (λ (d : DriverState). d.image) c.driver.view_is) (omega (arith, c.images.ensures.value, c.images.ensures.most, c.if-images-eq-MOST_IMAGES.false)) c.pages_for-pages.result c.pages_for-pages.ensures
    c.in-Some.page c.in-Some.ensures.lowest c.place_and_admit.new.tables c.in_ok-place_and_admit.ensures

pub invariant_of-result-then-has_started : goal.invariant_of-result-then-has_started
invariant_of-result-then-has_started g c =
    lemmas.host_then (record { tables = c.host.inside.tables; taken = c.host.inside.taken }) c.host.invariant c.keeps_order.ensures.orderly c.args.driver.now c.requires
    c.driver.inside.image (ap (λ (d : DriverState). d.image) c.driver.view_is) (omega (arith, c.images.ensures.value, c.images.ensures.most, c.if-images-eq-MOST_IMAGES.false)) c.pages_for-pages.result c.pages_for-pages.ensures
    c.in-Some.page c.in-Some.ensures.lowest c.place_and_admit.new.tables c.in_ok-place_and_admit.ensures
    c.keeps_order-2.ensures.orderly c.region_on-region.result c.region_on-region.ensures c.in_ok-tables.tables c.in_ok-tables.records c.in_ok-tables.ended
    c.in_ok-tables.ensures.tables c.in_ok-tables.ensures.records c.in_ok-tables.ensures.ended c.take.new.self c.in-Some.ensures.taken

pub returns-then-has_started : goal.returns-then-has_started
returns-then-has_started g c loadable is =
    lemmas.told_then (record { tables = c.host.inside.tables; taken = c.host.inside.taken }) c.host.invariant c.keeps_order.ensures.orderly c.args.driver.now c.requires
    c.driver.inside.image (ap (λ (d : DriverState). d.image) c.driver.view_is) (omega (arith, c.images.ensures.value, c.images.ensures.most, c.if-images-eq-MOST_IMAGES.false)) c.pages_for-pages.result c.pages_for-pages.ensures
    c.in-Some.page c.in-Some.ensures.lowest c.place_and_admit.new.tables c.in_ok-place_and_admit.ensures
    c.keeps_order-2.ensures.orderly c.region_on-region.result c.region_on-region.ensures c.in_ok-tables.tables c.in_ok-tables.records c.in_ok-tables.ended
    c.in_ok-tables.ensures.tables c.in_ok-tables.ensures.records c.in_ok-tables.ensures.ended c.take.new.self c.in-Some.ensures.taken
    (sym c.has_started.ensures ∙ c.if-has_started.true) loadable is
    ∙ ap (started loadable) c.host.view_is

pub withdraw-requires : goal.withdraw-requires
withdraw-requires g c =
    lemmas.may_then (record { tables = c.host.inside.tables; taken = c.host.inside.taken }) c.host.invariant c.keeps_order.ensures.orderly c.args.driver.now c.requires
    c.driver.inside.image (ap (λ (d : DriverState). d.image) c.driver.view_is) (omega (arith, c.images.ensures.value, c.images.ensures.most, c.if-images-eq-MOST_IMAGES.false)) c.pages_for-pages.result c.pages_for-pages.ensures
    c.in-Some.page c.in-Some.ensures.lowest c.place_and_admit.new.tables c.in_ok-place_and_admit.ensures
    c.keeps_order-2.ensures.orderly c.region_on-region.result c.region_on-region.ensures c.in_ok-tables.tables c.in_ok-tables.records c.in_ok-tables.ended
    c.in_ok-tables.ensures.tables c.in_ok-tables.ensures.records c.in_ok-tables.ensures.ended c.take.new.self c.in-Some.ensures.taken
    c.next_number.result c.next_handle.result c.next_number.ensures.value c.next_handle.ensures.value

pub invariant_of-result-2 : goal.invariant_of-result-2
invariant_of-result-2 g c =
    lemmas.host_back (record { tables = c.host.inside.tables; taken = c.host.inside.taken }) c.host.invariant c.keeps_order.ensures.orderly c.args.driver.now c.requires
    c.driver.inside.image (ap (λ (d : DriverState). d.image) c.driver.view_is) (omega (arith, c.images.ensures.value, c.images.ensures.most, c.if-images-eq-MOST_IMAGES.false)) c.pages_for-pages.result c.pages_for-pages.ensures
    c.in-Some.page c.in-Some.ensures.lowest c.place_and_admit.new.tables c.in_ok-place_and_admit.ensures
    c.keeps_order-2.ensures.orderly c.region_on-region.result c.region_on-region.ensures c.in_ok-tables.tables c.in_ok-tables.records c.in_ok-tables.ended
    c.in_ok-tables.ensures.tables c.in_ok-tables.ensures.records c.in_ok-tables.ensures.ended c.take.new.self c.in-Some.ensures.taken
    c.next_number.result c.next_handle.result c.next_number.ensures.value c.next_handle.ensures.value
    c.withdraw.new.tables c.withdraw.new.taken c.withdraw.ensures.tables c.withdraw.ensures.taken

pub returns : goal.returns
returns g c loadable is =
    lemmas.told_back (record { tables = c.host.inside.tables; taken = c.host.inside.taken }) c.host.invariant c.keeps_order.ensures.orderly c.args.driver.now c.requires
    c.driver.inside.image (ap (λ (d : DriverState). d.image) c.driver.view_is) (omega (arith, c.images.ensures.value, c.images.ensures.most, c.if-images-eq-MOST_IMAGES.false)) c.pages_for-pages.result c.pages_for-pages.ensures
    c.in-Some.page c.in-Some.ensures.lowest c.place_and_admit.new.tables c.in_ok-place_and_admit.ensures
    c.keeps_order-2.ensures.orderly c.region_on-region.result c.region_on-region.ensures c.in_ok-tables.tables c.in_ok-tables.records c.in_ok-tables.ended
    c.in_ok-tables.ensures.tables c.in_ok-tables.ensures.records c.in_ok-tables.ensures.ended c.take.new.self c.in-Some.ensures.taken
    c.next_number.result c.next_handle.result c.next_number.ensures.value c.next_handle.ensures.value
    c.withdraw.new.tables c.withdraw.new.taken c.withdraw.ensures.tables c.withdraw.ensures.taken
    (sym c.has_started.ensures ∙ c.if-has_started.false) loadable is
    ∙ ap (started loadable) c.host.view_is
