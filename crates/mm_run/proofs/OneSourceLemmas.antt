-- What the clauses of a run say of a command that has one source.
use Rattle.std.proofs.Common.{◌≡◌, ◌≤◌, inl, inr, List, [], ◌∷◌, length, ℕ, Some, None, refl}
use Rattle.std.specs.declared.option.Option.{Option}
use Rattle.comm_core.specs.WorldHeadline.{HasHeadline}
use Rattle.comm_core.specs.WorldState.{WorldState}
use Rattle.comm_core.proofs.HeadlineLemmas.{headline_of}
use Rattle.mm_core.specs.CoreState.{CoreState}
use Rattle.mm_core.specs.EntryStep.{core_step}
use Rattle.mm_core.specs.MachineLemmas.{core_step-within}
use Rattle.mm_run.specs.RunWorld.{StandsForScript}
use Rattle.mm_run.specs.SourceKinds.{most_of, IsGoodAs}
use Rattle.mm_run.specs.Sources.{NamedSource, sources_named, HasFailed, WasRead, StopsRun, Wanting, RunStops, AllRead, HoldsGood, AllHoldGood, HoldsFault, FaultHeld, FirstBad, OthersAreUntouched}
use Rattle.mm_run.specs.declared.command.Command.{Command}
use Rattle.mm_run.specs.declared.command.Command.TheVariants.{Script, Check, Boot, Serve}
use Rattle.mm_run.specs.declared.status.Status.{Status}

-- a run stops at its one source; where memory was refused in the run itself, at most as many bytes came as may
pub one_stop : (s : NamedSource) (RestIsUntouched : Type 0) (status : Status) → RunStops (s ∷ []) RestIsUntouched status → StopsRun s status
one_stop s RestIsUntouched status (inl stop) = stop.0
one_stop s RestIsUntouched status (inr made) = Wanting (made.0.bytes, made.0.read.within, made.0.read.gives) made.1

-- what was read is the bytes of that source
pub one_read : (s : NamedSource) (contents : List (List ℕ))
    → AllRead (s ∷ []) contents
    → (bytes : List ℕ) × ((contents ≡ bytes ∷ []) × WasRead s bytes)
one_read s [] read = absurd read
one_read s (bytes ∷ []) read = (bytes, (refl, read.0))
one_read s (bytes ∷ other ∷ contents) read = absurd read.1

-- a source that holds good bytes, with no fault risen, is all of them
pub one_good : (s : NamedSource) (bytes : List ℕ)
    → (HasFailed s → ⊥)
    → s.seen.before ≡ Some bytes
    → length bytes ≤ most_of s.kind
    → IsGoodAs s.kind bytes
    → AllHoldGood (s ∷ [])
one_good s bytes calm told within good =
    let held : HoldsGood s = record { calm = calm; bytes = bytes; told = told; within = within; good = good } in
    (held, tt)

-- one that holds a fault is the first that does
pub one_bad : (s : NamedSource) (status : Status) → (HasFailed s → ⊥) → HoldsFault s status → FirstBad (s ∷ []) status
one_bad s status calm held = inl (FaultHeld calm held)

-- the second source is untouched where no command of two sources is named, and the first one too where the words are of no form
pub second_untouched : (named : Option Command) (First Second : Type 0) → (named ≡ Some Serve → ⊥)
    → OthersAreUntouched (sources_named named) First Second → Second
second_untouched None First Second other others = others.1
second_untouched (Some Script) First Second other others = others
second_untouched (Some Check) First Second other others = others
second_untouched (Some Boot) First Second other others = others
second_untouched (Some Serve) First Second other others = absurd (other refl)

pub first_untouched : (First Second : Type 0) → OthersAreUntouched (sources_named None) First Second → First
first_untouched First Second others = others.0

-- a world that stands for a script's events has the headline from the core of just that script
pub stands_headline : (command : Command) (sources : List NamedSource) (world : WorldState CoreState)
    → (s : StandsForScript command sources world)
    → HasHeadline core_step s.core world
stands_headline command sources world s =
    headline_of core_step s.core s.script.events world (λ core request. (core_step-within core request).reply) s.stands
