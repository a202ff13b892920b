use Rattle.mm_base.specs.declared.access.Right.TheVariants.{Read}
use Rattle.supervisor_calls.specs.Domains.{trapped_of}
use Rattle.supervisor_calls.proofs.CellLemmas.{ports_within}
use Rattle.supervisor_calls.proofs.domain.Domain.read_ports.Goals as goal

pub io_read-requires-clause-within : goal.io_read-requires-clause-within
io_read-requires-clause-within g c =
    let d = c.pass_read.new.self in
    ports_within d.tables.site d.image Read (trapped_of d) c.args.port c.args.n c.requires c.in_ok-pass_read.ensures.passes
