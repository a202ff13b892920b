use Rattle.mm_memory.specs.TestMemory.{HasTwoPages}
use Rattle.mm_memory.proofs.tests.pieces_around_the_seam.Given as goal

abbrev pub invariant-loop-count : goal.invariant-loop-count
invariant-loop-count g l = HasTwoPages l.memory
