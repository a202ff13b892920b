use Rattle.std.proofs.Common.{◌≡◌, drop}
use Rattle.mm_text.specs.ScriptText.{value_of}
use Rattle.mm_text.proofs.registers.value_of_register.Given as goal

-- the names that are left answer for all
abbrev pub invariant-loop-named : goal.invariant-loop-named
invariant-loop-named l = value_of (drop l.named-index l.registers) l.register ≡ value_of l.registers l.register
