use Rattle.std.proofs.Common.{◌∙◌, ap}
use Rattle.mm_base.specs.declared.policy.Policy.{Policy}
use Rattle.secure_policy.specs.declared.place.Place.TheVariants.{Nowhere, LaneWindow}
use Rattle.secure_policy.proofs.VerdictLemmas.{at_place, at_home, not_home, by_the_rules}
use Rattle.secure_policy.proofs.guard.Guard.decide.Goals as goal

pub returns-in-Nowhere : goal.returns-in-Nowhere
returns-in-Nowhere g c = at_place _ _ _ _ _ _ _ Nowhere c.in-Nowhere.ensures

pub returns-in-Mmram : goal.returns-in-Mmram
returns-in-Mmram g c = at_home _ _ _ _ _ _ _ c.home.result c.home.ensures c.if-home.true c.in-Mmram.ensures

pub returns-in-Mmram-2 : goal.returns-in-Mmram-2
returns-in-Mmram-2 g c = not_home _ _ _ _ _ _ _ c.home.result c.home.ensures c.if-home.false c.in-Mmram-2.ensures

pub returns-in-LaneWindow : goal.returns-in-LaneWindow
returns-in-LaneWindow g c = at_place _ _ _ _ _ _ _ LaneWindow c.in-LaneWindow.ensures

pub returns-in-Cells : goal.returns-in-Cells
returns-in-Cells g c =
    by_the_rules _ _ _ _ _ _ _ c.as_slice.result.now c.owner-name.result c.decide_by_rules.result c.decide_by_rules.ensures
    (c.as_slice.ensures ∙ ap (λ (policy : Policy). policy.rules) c.self.view_is) c.owner-name.ensures c.in-Cells.ensures
