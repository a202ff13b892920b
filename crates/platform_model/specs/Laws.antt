-- Laws of cells.
use Rattle.std.specs.Prelude.{◌≡◌, ◌≢◌, ◌⊎◌, ℕ, ◌+◌, ◌%◌, ◌^◌, ◌≤◌, ◌<◌, true, false, List, ◌∷◌, ◌++◌, length, get_or}
use Rattle.std.specs.Prelude.{All}
use Rattle.mm_base.specs.Cells.{is_msr}
use Rattle.mm_base.specs.Numbers.{low_bytes, number_in, overwritten}
use Rattle.mm_base.specs.declared.access.Kind.{Kind}
use Rattle.mm_base.specs.declared.cells.CellWrite.{CellWrite}
use Rattle.platform_model.specs.Cells.{PlatformState, IsPlatform, register_in, with_register}
use Rattle.platform_model.specs.Opening.{is_for, opening_value, opening_values}

-- What is read where a number was written is what n bytes hold of it.
abbrev pub NumberIsReadBack : Type 0
NumberIsReadBack =
    (cells : List ℕ) (at n value : ℕ)
    → n ≤ 8 → value < 2 ^ 64 → at + n ≤ length cells
    → number_in (overwritten cells at (low_bytes n value)) at n ≡ value % 256 ^ n

-- A cell before those that are written or after them stays.
abbrev pub OtherCellsStay : Type 0
OtherCellsStay =
    (cells : List ℕ) (at n value cell : ℕ)
    → n ≤ 8 → at + n ≤ length cells → (cell < at) ⊎ (at + n ≤ cell)
    → get_or (overwritten cells at (low_bytes n value)) cell 0 ≡ get_or cells cell 0

-- A register that was written is read back, and each other one stays.
abbrev pub RegisterIsReadBack : Type 0
RegisterIsReadBack =
    (platform : PlatformState) (index value : ℕ)
    → IsPlatform platform → is_msr index ≡ true → register_in (with_register index value platform) index ≡ value

abbrev pub OtherRegistersStay : Type 0
OtherRegistersStay =
    (platform : PlatformState) (index other value : ℕ)
    → is_msr index ≡ true → is_msr other ≡ true → index ≢ other
    → register_in (with_register index value platform) other ≡ register_in platform other

-- The last line for a cell tells what it holds at the start.
abbrev pub LastLineHolds : Type 0
LastLineHolds =
    (before after : List CellWrite) (line : CellWrite) (kind : Kind) (at : ℕ)
    → is_for kind at line ≡ true
    → All (λ later. is_for kind at later ≡ false) after
    → opening_value (before ++ line ∷ after) kind at ≡ line.value

-- A cell for which there is no line holds 0.
abbrev pub OthersHoldZero : Type 0
OthersHoldZero =
    (lines : List CellWrite) (kind : Kind) (at : ℕ)
    → All (λ line. is_for kind at line ≡ false) lines → opening_value lines kind at ≡ 0

-- Each cell of a list holds what its number says.
abbrev pub EachHoldsItsOwn : Type 0
EachHoldsItsOwn =
    (lines : List CellWrite) (kind : Kind) (first n k : ℕ)
    → k < n → get_or (opening_values lines kind first n) k 0 ≡ opening_value lines kind (first + k)
