use Rattle.std.proofs.Common.{◌≡◌, ◌+◌, ◌++◌, ◌∷◌, [], ◌∙◌, List, ℕ, length, ap, sym, subst, arith}
use Rattle.std.specs.List.{All}
use Rattle.std.proofs.lemmas.List.Elements.{All-push}
use Rattle.mm_run.proofs.ScriptLemmas.{values_more}
use Rattle.mm_run.proofs.lanes.words_of_lanes.Goals as goal

-- the words of one lane more
pub loop-lane-preserved : goal.loop-lane-preserved
loop-lane-preserved g c =
    let inv = c.loop-lane.invariant in
    let copied = c.in_ok-from_slice.field-0 in
    let size = ap length c.in_ok-from_slice.ensures ∙ c.lane.ensures.len in
    let P : List (List ℕ) → Type 0 = λ lanes. All (λ lane. length lane ≡ c.args.world.now.words + 2) lanes in
    record {
      values =
          c.in_ok-push.ensures.ok ∙ ap (λ lanes. lanes ++ copied ∷ []) inv.values
          ∙ values_more c.args.world.now.lanes c.loop-lane.lane copied (omega (arith, c.lanes-lane-end.ensures, c.loop-lane-test.true))
          (λ seen there. c.in_ok-from_slice.ensures ∙ c.lane.ensures.value seen there);
      sizes = subst P (sym c.in_ok-push.ensures.ok) (All-push (λ lane. length lane ≡ c.args.world.now.words + 2) c.loop-lane.lanes copied inv.sizes size);
    }
