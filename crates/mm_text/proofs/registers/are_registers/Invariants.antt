use Rattle.std.proofs.Common.{◌≡◌, length, drop}
use Rattle.mm_text.specs.ScriptReaderInside.{are_registers}
use Rattle.mm_text.proofs.RegisterLemmas.{are_fresh}
use Rattle.mm_text.proofs.registers.are_registers.Given as goal

-- the registers that are left answer for all
abbrev pub invariant-loop-item : goal.invariant-loop-item
invariant-loop-item l = record {
  size : length l.named ≡ 19;
  rest : are_fresh l.named (drop l.item-index l.registers) ≡ are_registers l.registers;
}
