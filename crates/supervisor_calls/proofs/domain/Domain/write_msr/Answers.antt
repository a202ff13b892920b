use Rattle.mm_base.specs.declared.access.Kind.TheVariants.{Msr}
use Rattle.mm_base.specs.declared.access.Right.TheVariants.{Write}
use Rattle.supervisor_calls.specs.Domains.{trapped_of, verdict_in}
use Rattle.supervisor_calls.proofs.CellLemmas.{register_there, passes_without_quota}
use Rattle.supervisor_calls.proofs.domain.Domain.write_msr.Goals as goal

pub write_msr-requires : goal.write_msr-requires
write_msr-requires g c =
    let d = c.pass_write.new.self in
    register_there d.tables.site d.image Write (trapped_of d) c.args.index
    (passes_without_quota Msr c.args.index d.records (verdict_in d Msr c.args.index 1 Write) c.in_ok-pass_write.ensures.passes)
