-- How a reader ends that doesn't give what it was asked for.
use Rattle.std.specs.Prelude.{ℕ}
use Rattle.mm_base.specs.declared.end.End.{End}
use Rattle.mm_base.specs.declared.end.End.TheVariants.{Fault, NoMemory}
use Rattle.mm_base.specs.declared.no_memory.NoMemory as token

-- out of memory is one value: nothing is told of the growth that was refused
abbrev pub out_of_memory : token.NoMemory
out_of_memory = record { 0 = tt }

-- A reader ended by such a fault, or out of memory.
abbrev pub EndsBy : {F : Type 0} → (F → Type 0) → End F → Type 0
EndsBy IsIt (Fault fault) = IsIt fault
EndsBy IsIt (NoMemory refused) = Unit {0}
