use Rattle.std.proofs.Common.{ap}
use Rattle.driver_start.specs.Starts.{DriverState}
use Rattle.driver_start.proofs.PlaceLemmas as lemmas
use Rattle.driver_start.proofs.loading.place_and_admit.Goals as goal

pub load_services-requires-clause-live : goal.load_services-requires-clause-live
load_services-requires-clause-live g c =
    lemmas.formed_live c.args.tables.now c.args.driver.now c.requires.driver c.args.page c.load_form.new.tables c.in_ok-load_form.ensures c.requires.live

pub admit-requires-clause-live : goal.admit-requires-clause-live
admit-requires-clause-live g c =
    lemmas.admit_live c.args.tables.now c.args.driver.now c.requires.driver c.args.page c.load_form.new.tables c.in_ok-load_form.ensures
    c.driver.inside.image (ap (λ (d : DriverState). d.image) c.driver.view_is) c.region_on-region.result c.region_on-region.ensures
    c.service_page.result c.service_page.ensures c.load_services.new.tables c.load_services.ensures c.requires.live c.requires.run

pub admit-requires-clause-header : goal.admit-requires-clause-header
admit-requires-clause-header g c =
    lemmas.headers_fit c.args.tables.now c.args.driver.now c.requires.driver c.args.page c.load_form.new.tables c.in_ok-load_form.ensures
    c.driver.inside.image (ap (λ (d : DriverState). d.image) c.driver.view_is) c.region_on-region.result c.region_on-region.ensures
    c.service_page.result c.service_page.ensures c.load_services.new.tables c.load_services.ensures

pub admit-requires-clause-count : goal.admit-requires-clause-count
admit-requires-clause-count g c =
    lemmas.count_fits c.args.tables.now c.args.driver.now c.requires.driver c.args.page c.load_form.new.tables c.in_ok-load_form.ensures
    c.driver.inside.image (ap (λ (d : DriverState). d.image) c.driver.view_is) c.region_on-region.result c.region_on-region.ensures
    c.service_page.result c.service_page.ensures c.load_services.new.tables c.load_services.ensures c.in_ok-parts.parts c.in_ok-parts.ensures

pub admit-requires-clause-within : goal.admit-requires-clause-within
admit-requires-clause-within g c =
    lemmas.sections_within c.args.tables.now c.args.driver.now c.requires.driver c.args.page c.load_form.new.tables c.in_ok-load_form.ensures
    c.driver.inside.image (ap (λ (d : DriverState). d.image) c.driver.view_is) c.region_on-region.result c.region_on-region.ensures
    c.service_page.result c.service_page.ensures c.load_services.new.tables c.load_services.ensures c.in_ok-parts.parts c.in_ok-parts.ensures

pub admit-requires-clause-apart : goal.admit-requires-clause-apart
admit-requires-clause-apart g c =
    lemmas.sections_apart c.args.tables.now c.args.driver.now c.requires.driver c.args.page c.load_form.new.tables c.in_ok-load_form.ensures
    c.driver.inside.image (ap (λ (d : DriverState). d.image) c.driver.view_is) c.region_on-region.result c.region_on-region.ensures
    c.service_page.result c.service_page.ensures c.load_services.new.tables c.load_services.ensures c.in_ok-parts.parts c.in_ok-parts.ensures

pub returns : goal.returns
returns g c loadable is =
    lemmas.admitted_is c.args.tables.now c.args.driver.now c.requires.driver c.args.page c.load_form.new.tables c.in_ok-load_form.ensures
    c.driver.inside.image (ap (λ (d : DriverState). d.image) c.driver.view_is) c.region_on-region.result c.region_on-region.ensures
    c.service_page.result c.service_page.ensures c.load_services.new.tables c.load_services.ensures c.in_ok-parts.parts c.in_ok-parts.ensures
    c.requires.few c.driver.inside.name (ap (λ (d : DriverState). d.name) c.driver.view_is) c.in_ok-admit.field-0 c.in_ok-admit.ensures.value
    c.admit.new.self c.in_ok-admit.ensures.joins loadable is
