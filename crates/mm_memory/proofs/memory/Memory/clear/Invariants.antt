use Rattle.std.proofs.Common.{◌≡◌, ◌≤◌, ◌-◌, length}
use Rattle.mm_base.specs.Frames.{zeros}
use Rattle.mm_base.specs.Numbers.{overwritten}
use Rattle.mm_memory.proofs.memory.Memory.clear.Given as goal

-- Clearing what is left gives what clearing all gives.
abbrev pub invariant-loop-from : goal.invariant-loop-from
invariant-loop-from g l = record {
  live : l.self.live ≡ l.fn.self.live;
  size : length l.self.bytes ≡ length l.fn.self.bytes;
  later : l.at ≤ l.from;
  within : l.from ≤ l.end;
  left : overwritten l.self.bytes l.from (zeros (l.end - l.from)) ≡ overwritten l.fn.self.bytes l.fn.at (zeros l.fn.count);
}

abbrev pub decreases-loop-from : goal.decreases-loop-from
decreases-loop-from g l = l.end - l.from
