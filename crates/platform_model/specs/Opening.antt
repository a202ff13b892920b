-- What the cells hold at the start.
use Rattle.std.specs.Prelude.{ℕ, zero, suc, Bool, ◌==◌, ◌&&◌, List, [], ◌∷◌, find, reverse}
use Rattle.std.specs.Option.{option_map_or}
use Rattle.mm_base.specs.Kinds.{same_kind}
use Rattle.mm_base.specs.declared.access.Kind.{Kind}
use Rattle.mm_base.specs.declared.access.Kind.TheVariants.{Memory, Io, Msr}
use Rattle.mm_base.specs.declared.cells.CellWrite.{CellWrite}
use Rattle.platform_model.specs.Cells.{PlatformState}

-- whether a line is for this cell
abbrev pub is_for : Kind → ℕ → CellWrite → Bool
is_for kind at line = same_kind line.kind kind && (line.at == at)

-- what a cell holds at the start: the value of the last line for it, else 0
abbrev pub opening_value : List CellWrite → Kind → ℕ → ℕ
opening_value lines kind at = option_map_or (λ line. line.value) (find (is_for kind at) (reverse lines)) 0

-- what n cells hold at the start, from the one with this number on
unfoldable pub opening_values : List CellWrite → Kind → ℕ → ℕ → List ℕ
opening_values lines kind at zero = []
opening_values lines kind at (suc n) = opening_value lines kind at ∷ opening_values lines kind (suc at) n

-- all cells at the start
abbrev pub opening_state : List CellWrite → PlatformState
opening_state lines = record {
  ports = opening_values lines Io 0 65536;
  device = opening_values lines Memory 0xfe000000 65536;
  msrs = opening_values lines Msr 0 8192;
  upper_msrs = opening_values lines Msr 0xc0000000 8192;
}
