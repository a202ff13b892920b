use Rattle.std.proofs.Common.{◌++◌, ◌∷◌, [], length, reverse, ap, ◌∙◌}
use Rattle.dispatcher.specs.FamiliesInside.{listed_for}
use Rattle.dispatcher.specs.declared.families.Step.{Step}
use Rattle.dispatcher.proofs.StepLemmas.{family_cheaper, family_opened, popped}
use Rattle.dispatcher.proofs.families.Families.schedule.Goals as goal

pub loop-step-smaller-in-Continue-branch-2 : goal.loop-step-smaller-in-Continue-branch-2
loop-step-smaller-in-Continue-branch-2 c =
    family_cheaper (listed_for c.args.self.now.before) (listed_for c.args.self.now.after) (length c.args.self.now.drivers.now) c.in-Family.member
    c.loop-step.steps.items c.pop.new.self.items (reverse c.open.new.steps.items) c.loop-step.scheduled.items _
    (popped _ _ _ (c.in-Some.ensures.items ∙ ap (λ (step : Step). c.pop.new.self.items ++ step ∷ []) c.in-Family.is))
    c.in_ok-open-in-Family.ensures c.loop-step.invariant

pub loop-step-preserved-in-Continue-branch-2 : goal.loop-step-preserved-in-Continue-branch-2
loop-step-preserved-in-Continue-branch-2 c =
    family_opened (listed_for c.args.self.now.before) (listed_for c.args.self.now.after) (length c.args.self.now.drivers.now) c.in-Family.member
    c.loop-step.steps.items c.pop.new.self.items (reverse c.open.new.steps.items) c.loop-step.scheduled.items _
    (popped _ _ _ (c.in-Some.ensures.items ∙ ap (λ (step : Step). c.pop.new.self.items ++ step ∷ []) c.in-Family.is))
    c.in_ok-open-in-Family.ensures c.loop-step.invariant
