use Rattle.volume_boot.proofs.FoundLemmas.{expression_not_faulty}
use Rattle.volume_boot.proofs.drivers.expression_of.Goals as goal

pub unreachable-requires : goal.unreachable-requires
unreachable-requires c =
    expression_not_faulty c.args.bytes.now c.args.parts.now.depex c.in-Some.section c.in-Some.is c.requires.expression c.data.result.now c.data.ensures
    c.in-Err-Fault.field-0 c.in-Err-Fault.field-0-0 c.in-Err-Fault.field-0-is c.in-Err-Fault.ensures.fault
