use Rattle.std.proofs.Common.{sym, subst}
use Rattle.comm_core.specs.Processor.{ProcessorState, IsSound, MayStore}
use Rattle.comm_core.specs.declared.processor.Fed.TheVariants as fed
use Rattle.comm_core.specs.declared.processor.Stage.{Stage}
use Rattle.comm_core.proofs.ProcessorLemmas.{fed_sound, feeds_soundly}
use Rattle.comm_core.proofs.processor.Processor.stored.Goals as goal

pub store-requires : goal.store-requires
store-requires c =
    let p = c.self.inside in
    let Q : ProcessorState → Type 0 = λ q. MayStore q.stage in
    let may : MayStore p.stage = subst Q (sym c.self.view_is) c.requires in
    feeds_soundly p.words p.stage fed.Stored c.self.invariant.1 c.self.invariant.2 may

pub invariant_of-self : goal.invariant_of-self
invariant_of-self c =
    let p = c.self.inside in
    let Q : ProcessorState → Type 0 = λ q. MayStore q.stage in
    let may : MayStore p.stage = subst Q (sym c.self.view_is) c.requires in
    let P : Stage → Type 0 = λ s. IsSound p.words s in
    (c.self.invariant.0, c.self.invariant.1, subst P (sym c.store.ensures) (fed_sound p.words p.stage fed.Stored c.self.invariant.2 may))
