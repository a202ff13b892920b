-- What reading an instruction tells.
use Rattle.std.specs.Prelude.{◌≡◌, ℕ, List, [], ◌∷◌, length, Result, Ok}
use Rattle.ebc_decode.specs.declared.ins.Ins.{Ins}
use Rattle.ebc_decode.specs.declared.reading.EncodingFault.{EncodingFault}
use Rattle.ebc_decode.specs.Bytes.{BeginsWith}
use Rattle.ebc_decode.specs.Spelling.{spelling_of}
use Rattle.ebc_decode.specs.Lawful.{IsLawful}

-- how many bytes an instruction has
abbrev pub size_of : Ins → ℕ
size_of ins = length (spelling_of ins)

-- The bytes begin with the spelling of the instruction, which has n bytes.
pub record IsInstruction (bytes : List ℕ) (ins : Ins) (n : ℕ) : Type 0 where
  pub lawful : IsLawful ins
  pub begins : BeginsWith bytes (spelling_of ins)
  pub size : n ≡ size_of ins

-- Each instruction with whose spelling the bytes begin is what is told.
abbrev pub TellsEach : List ℕ → Result (Ins × ℕ) EncodingFault → Type 0
TellsEach bytes told = (ins : Ins) → IsLawful ins → BeginsWith bytes (spelling_of ins) → told ≡ Ok (ins, size_of ins)

-- Two bytes begin the spelling of some instruction, which has n bytes.
pub record BeginsInstruction (first second n : ℕ) : Type 0 where
  pub ins : Ins
  pub lawful : IsLawful ins
  pub begins : BeginsWith (spelling_of ins) (first ∷ second ∷ [])
  pub size : n ≡ size_of ins

-- Each instruction whose spelling they begin has the length that is told.
abbrev pub TellsEachLength : ℕ → ℕ → Result ℕ EncodingFault → Type 0
TellsEachLength first second told =
    (ins : Ins) → IsLawful ins → BeginsWith (spelling_of ins) (first ∷ second ∷ []) → told ≡ Ok (size_of ins)
