use Rattle.std.proofs.Common.{subst, arith}
use Rattle.comm_core.specs.Processor.{IsSound}
use Rattle.comm_core.specs.declared.processor.Stage.{Stage}
use Rattle.comm_core.specs.declared.processor.Stage.TheVariants.{Storing}
use Rattle.comm_core.proofs.ProcessorLemmas.{to_come_within}
use Rattle.comm_core.proofs.processor.Processor.records_to_come.Goals as goal

pub returns-in-Storing-clause-within : goal.returns-in-Storing-clause-within
returns-in-Storing-clause-within c =
    let p = c.self.inside in
    let P : Stage → Type 0 = λ s. IsSound p.words s in
    let sound = subst P c.in-Storing.is c.self.invariant.2 in
    omega (
      arith,
      c.answer_length.ensures,
      to_come_within p.words (Storing c.in-Storing.receipt c.in-Storing.stored) c.self.invariant.1 sound,
    )
