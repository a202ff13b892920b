use Rattle.mm_memory.specs.TestMemory.{HasTwoPages}
use Rattle.mm_memory.proofs.tests.all_widths_at_the_seam.Given as goal

abbrev pub invariant-loop-n : goal.invariant-loop-n
invariant-loop-n g l = HasTwoPages l.memory
