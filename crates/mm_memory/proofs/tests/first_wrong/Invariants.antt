use Rattle.mm_memory.specs.TestMemory.{HasTwoPages}
use Rattle.mm_memory.proofs.tests.first_wrong.Given as goal

abbrev pub invariant-loop-at : goal.invariant-loop-at
invariant-loop-at l = HasTwoPages l.memory
