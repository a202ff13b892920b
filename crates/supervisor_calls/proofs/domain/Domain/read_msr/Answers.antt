use Rattle.mm_base.specs.declared.access.Right.TheVariants.{Read}
use Rattle.supervisor_calls.specs.Domains.{trapped_of}
use Rattle.supervisor_calls.proofs.CellLemmas.{register_there}
use Rattle.supervisor_calls.proofs.domain.Domain.read_msr.Goals as goal

pub rdmsr-requires : goal.rdmsr-requires
rdmsr-requires g c =
    let d = c.pass_read.new.self in
    record { there = register_there d.tables.site d.image Read (trapped_of d) c.args.index c.in_ok-pass_read.ensures.passes }
