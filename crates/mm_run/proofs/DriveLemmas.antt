-- Events, one after another.
use Rattle.std.proofs.Common.{◌≡◌, ◌<◌, ◌≤◌, ℕ, ◌+◌, List, [], ◌∷◌, ◌++◌, length, take, drop, get_or, sum_by, sym, ap, ◌∙◌, arith, append_assoc, add-one}
use Rattle.std.proofs.Math.Seq.{take-suc}
use Rattle.std.proofs.lemmas.List.Sums.{sum_by-drop_more}
use Rattle.comm_core.specs.WorldReadiness.{rings_in}
use Rattle.comm_core.specs.declared.event.Event.{Event}

-- the events up to one, and that one
pub one_more : (so_far events : List Event) (i : ℕ) (d : Event) → i < length events → (so_far ++ take i events) ++ get_or events i d ∷ [] ≡ so_far ++ take (i + 1) events
one_more so_far events i d h =
    append_assoc so_far (take i events) (get_or events i d ∷ []) ∙ ap (λ l. so_far ++ l) (sym (rw add-one (take-suc events i d h)))

-- the rings that are left behind one event have their places still
pub few_more : (events : List Event) (i before now most : ℕ) (d : Event) → i < length events → now ≤ before + rings_in (get_or events i d) → before + sum_by rings_in (drop i events) ≤ most → now + sum_by rings_in (drop (i + 1) events) ≤ most
few_more events i before now most d h step few = omega (arith, step, few, sum_by-drop_more rings_in events i d h)
