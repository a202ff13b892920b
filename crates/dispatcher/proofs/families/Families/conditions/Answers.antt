use Rattle.std.proofs.Common.{ℕ, All, Vec, sym, ap, ◌∙◌, subst}
use Rattle.std.specs.declared.alloc.Global.{Global}
use Rattle.dispatcher.specs.FamiliesInside.{HasConditionAt}
use Rattle.dispatcher.proofs.TakingLemmas.{conditional, conditional_each, passed}
use Rattle.dispatcher.proofs.families.Families.conditions.Goals as goal
use Rattle.dispatcher.proofs.families.Families.conditions.Goals.{then-is_conditional+in_ok-push, else-is_conditional}

pub loop-place-preserved : goal.loop-place-preserved
loop-place-preserved c =
    let drivers = c.args.self.now.drivers.now in
    let place = c.loop-place.place in
    let driver = c.driver-item.result in
    let within = c.loop-place-test.true in
    let is = c.driver-item.is in
    let old = c.loop-place.places.items in
    let new = c.if-is_conditional.places.items in
    elim c.if-is_conditional.branch [
      | then-is_conditional+in_ok-push w ↦ record {
        items = conditional drivers place driver within is old new (sym c.is_conditional.ensures ∙ w.if-is_conditional.true) c.loop-place.invariant.items
            (ap (λ (places : Vec ℕ Global). places.items) w.places-is ∙ w.in_ok-push.ensures.items);
        each = conditional_each drivers place driver within is old new (sym c.is_conditional.ensures ∙ w.if-is_conditional.true) c.loop-place.invariant.each
            (ap (λ (places : Vec ℕ Global). places.items) w.places-is ∙ w.in_ok-push.ensures.items);
      }
      | else-is_conditional w ↦ record {
        items = passed drivers place driver within is old new (sym c.is_conditional.ensures ∙ w.if-is_conditional.false) c.loop-place.invariant.items
            (ap (λ (places : Vec ℕ Global). places.items) w.places-is);
        each = subst (λ (places : Vec ℕ Global). All (HasConditionAt drivers) places.items) (sym w.places-is) c.loop-place.invariant.each;
      }
    ]
