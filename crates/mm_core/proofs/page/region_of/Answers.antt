use Rattle.mm_core.proofs.CodeLemmas.{region_there}
use Rattle.mm_core.proofs.page.region_of.Goals as goal

pub returns-clause-live : goal.returns-clause-live
returns-clause-live g c =
    region_there c.args.tables.now c.args.image c.region.result c.keeps.ensures.tables c.keeps.ensures.placed c.region.ensures
