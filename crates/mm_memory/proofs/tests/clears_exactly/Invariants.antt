use Rattle.mm_memory.specs.TestMemory.{HasTwoPages}
use Rattle.mm_memory.proofs.tests.clears_exactly.Given as goal

abbrev pub invariant-loop-at : goal.invariant-loop-at
invariant-loop-at g l = HasTwoPages l.memory
