use Rattle.std.proofs.Common.{◌≡◌, ℕ, ◌<◌, length, get_or}
use Rattle.mm_text.specs.ScriptText.{value_of}
use Rattle.mm_text.proofs.registers.saved_registers.Given as goal

-- the registers so far have their values
abbrev pub invariant-loop-register : goal.invariant-loop-register
invariant-loop-register l = record {
  size : length l.values ≡ 19;
  filled : (k : ℕ) → k < l.register → get_or l.values k 0 ≡ value_of l.registers k;
}
