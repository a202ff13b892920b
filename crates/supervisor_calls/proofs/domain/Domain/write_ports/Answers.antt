use Rattle.mm_base.specs.declared.access.Kind.TheVariants.{Io}
use Rattle.mm_base.specs.declared.access.Right.TheVariants.{Write}
use Rattle.supervisor_calls.specs.Domains.{trapped_of, verdict_in}
use Rattle.supervisor_calls.proofs.CellLemmas.{ports_within, passes_without_quota}
use Rattle.supervisor_calls.proofs.domain.Domain.write_ports.Goals as goal

pub write_ports-requires-clause-within : goal.write_ports-requires-clause-within
write_ports-requires-clause-within g c =
    let d = c.pass_write.new.self in
    ports_within d.tables.site d.image Write (trapped_of d) c.args.port c.args.n c.requires
    (passes_without_quota Io c.args.port d.records (verdict_in d Io c.args.port c.args.n Write) c.in_ok-pass_write.ensures.passes)
