use Rattle.std.proofs.Common.{◌≡◌, ◌++◌, map}
use Rattle.dispatcher.specs.declared.families.Step.TheVariants.{Family}
use Rattle.dispatcher.proofs.families.put_families.Given as goal

abbrev pub invariant-loop-member : goal.invariant-loop-member
invariant-loop-member l = l.steps.items ≡ l.fn.steps.items ++ map Family (map (λ member. member.now) l.yielded)
