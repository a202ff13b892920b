use Rattle.driver_start.proofs.OpeningLemmas.{zero_pages}
use Rattle.driver_start.proofs.host.zero_memory.Goals as goal

pub returns : goal.returns
returns c = zero_pages c.args.pages c.in_ok-new.field-0 c.new-2.result c.in_ok-new.ensures c.new-2.ensures
