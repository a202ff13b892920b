-- Laws of the spelling of instructions.
use Rattle.std.specs.Prelude.{◌≡◌, ℕ, ◌≤◌, List, Some}
use Rattle.ebc_decode.specs.declared.ins.Ins.{Ins}
use Rattle.ebc_decode.specs.Bytes.{BeginsWith}
use Rattle.ebc_decode.specs.Spelling.{spelling_of}
use Rattle.ebc_decode.specs.Lawful.{IsLawful}
use Rattle.ebc_decode.specs.Reading.{size_of, IsInstruction}
use Rattle.ebc_decode.specs.Decoding.{AreBytes, instruction_begun}

-- A spelling is that of one instruction.
abbrev pub OneInstruction : Type 0
OneInstruction = (one other : Ins) → IsLawful one → IsLawful other → spelling_of one ≡ spelling_of other → one ≡ other

-- No spelling begins with another one.
abbrev pub NoneBeginsAnother : Type 0
NoneBeginsAnother =
    (one other : Ins) → IsLawful one → IsLawful other → BeginsWith (spelling_of one) (spelling_of other) → one ≡ other

-- An instruction has 2 to 18 bytes.
abbrev pub HasTwoToEighteen : Type 0
HasTwoToEighteen = (ins : Ins) → IsLawful ins → (2 ≤ size_of ins) × (size_of ins ≤ 18)

-- The instruction that bytes begin with is one with whose spelling they begin,
abbrev pub BegunIsSpelled : Type 0
BegunIsSpelled =
    (bytes : List ℕ) (ins : Ins) (n : ℕ) → AreBytes bytes → instruction_begun bytes ≡ Some (ins, n) → IsInstruction bytes ins n

-- and each one with whose spelling they begin is it.
abbrev pub SpelledIsBegun : Type 0
SpelledIsBegun =
    (bytes : List ℕ) (ins : Ins) → AreBytes bytes → IsLawful ins → BeginsWith bytes (spelling_of ins)
    → instruction_begun bytes ≡ Some (ins, size_of ins)
