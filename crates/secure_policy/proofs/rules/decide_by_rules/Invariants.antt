use Rattle.std.proofs.Common.{◌≡◌, drop}
use Rattle.secure_policy.specs.Verdicts.{verdict_by_rules}
use Rattle.secure_policy.proofs.rules.decide_by_rules.Given as goal

-- What is left of the rules decides as all of them do.
abbrev pub invariant-loop-number : goal.invariant-loop-number
invariant-loop-number l =
    verdict_by_rules (drop l.number l.rules) l.number l.name l.kind l.access l.right
    ≡ verdict_by_rules l.rules 0 l.name l.kind l.access l.right
