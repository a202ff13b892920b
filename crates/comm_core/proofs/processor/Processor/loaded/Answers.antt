use Rattle.std.proofs.Common.{sym, subst}
use Rattle.comm_core.specs.Processor.{ProcessorState, IsSound, MayLoad}
use Rattle.comm_core.specs.declared.processor.Fed.TheVariants as fed
use Rattle.comm_core.specs.declared.processor.Stage.{Stage}
use Rattle.comm_core.proofs.ProcessorLemmas.{fed_sound, feeds_soundly}
use Rattle.comm_core.proofs.processor.Processor.loaded.Goals as goal

pub load-requires : goal.load-requires
load-requires c =
    let p = c.self.inside in
    let Q : ProcessorState → Type 0 = λ q. MayLoad q.words q.stage in
    let may : MayLoad p.words p.stage = subst Q (sym c.self.view_is) c.requires in
    feeds_soundly p.words p.stage (fed.Loaded c.args.value) c.self.invariant.1 c.self.invariant.2 may

pub invariant_of-self : goal.invariant_of-self
invariant_of-self c =
    let p = c.self.inside in
    let Q : ProcessorState → Type 0 = λ q. MayLoad q.words q.stage in
    let may : MayLoad p.words p.stage = subst Q (sym c.self.view_is) c.requires in
    let P : Stage → Type 0 = λ s. IsSound p.words s in (
      c.self.invariant.0,
      c.self.invariant.1,
      subst P (sym c.load.ensures) (fed_sound p.words p.stage (fed.Loaded c.args.value) c.self.invariant.2 may),
    )
