-- Where an access lies on the platform's map, which is this project's own.
use Rattle.std.specs.Prelude.{ℕ, zero, suc, ◌+◌, ◌^◌, Bool, true, ◌&&◌, nat_lt, if◌then◌else◌}
use Rattle.mm_base.specs.Cells.{is_port, is_device_byte, is_msr}
use Rattle.mm_base.specs.Platform.{mmram, lane_window, device_window, saved_count}
use Rattle.mm_base.specs.Range.{share_a_unit, encloses}
use Rattle.mm_base.specs.declared.access.Kind.{Kind}
use Rattle.mm_base.specs.declared.access.Kind.TheVariants.{Memory, Io, Msr, Saved}
use Rattle.mm_base.specs.declared.range.Range.{Range}
use Rattle.secure_policy.specs.declared.place.Place.{Place}
use Rattle.secure_policy.specs.declared.place.Place.TheVariants.{Nowhere, Mmram, LaneWindow, Cells}

-- whether a unit has a cell: a device byte, a port, a model-specific register, a saved register
abbrev pub has_cell : Kind → ℕ → Bool
has_cell Memory unit = is_device_byte unit
has_cell Io unit = is_port unit
has_cell Msr unit = is_msr unit
has_cell Saved unit = nat_lt unit saved_count

-- whether each of n units from a base on has one
abbrev pub have_cells : Kind → ℕ → ℕ → Bool
have_cells kind base zero = true
have_cells kind base (suc n) = has_cell kind base && have_cells kind (suc base) n

-- Of memory: an access that ends past 2 ^ 64 lies nowhere; one byte in MMRAM makes it one of MMRAM, and one in the
-- lanes' window one of that; else the device window covers it, or it lies nowhere.
abbrev pub place_of_bytes : Range → Place
place_of_bytes access =
    if nat_lt (2 ^ 64) (access.base + access.length) then Nowhere
    else if share_a_unit mmram access then Mmram
    else if share_a_unit lane_window access then LaneWindow
    else if encloses device_window access then Cells
    else Nowhere

-- whether units that all have cells, or not
abbrev pub place_of_cells : Bool → Place
place_of_cells there = if there then Cells else Nowhere

-- Of the other kinds: one unit without a cell, and it lies nowhere.
abbrev pub place_of : Kind → Range → Place
place_of Memory access = place_of_bytes access
place_of Io access = place_of_cells (have_cells Io access.base access.length)
place_of Msr access = place_of_cells (have_cells Msr access.base access.length)
place_of Saved access = place_of_cells (have_cells Saved access.base access.length)
