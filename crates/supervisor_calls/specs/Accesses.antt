-- What an image's accesses to memory come to: the verdict first, then the record of a denial, or the effect on just
-- these bytes.
use Rattle.std.specs.Prelude.{ℕ, ◌-◌, ◌%◌, Bool, true, false, ◌&&◌, if◌then◌else◌, nat_lt, nat_le, List, [], ◌∷◌, ◌++◌, length, take, drop, find, ◌==◌, Option, Some, None, Result, Ok, Err, slice_get, slice_index}
use Rattle.std.specs.List.{range_with_len}
use Rattle.std.specs.Option.{option_map_or}
use Rattle.image_table.specs.ImageTable.{is_home_at, name_at}
use Rattle.mm_base.specs.Cells.{is_device_byte}
use Rattle.mm_base.specs.Numbers.{number_of, number_in, low_bytes, overwritten}
use Rattle.mm_base.specs.Records.{RecordsState}
use Rattle.mm_base.specs.Regions.{service_page_of}
use Rattle.mm_base.specs.Services.{entry_of}
use Rattle.mm_base.specs.declared.access.Denial.{Denial}
use Rattle.mm_base.specs.declared.access.Kind.{Kind}
use Rattle.mm_base.specs.declared.access.Kind.TheVariants as kinds
use Rattle.mm_base.specs.declared.access.Right.{Right}
use Rattle.mm_base.specs.declared.access.Right.TheVariants as rights
use Rattle.mm_base.specs.declared.access.Verdict.{Verdict}
use Rattle.mm_base.specs.declared.access.Verdict.TheVariants.{Pass, Deny}
use Rattle.mm_base.specs.declared.access.Why.{Why}
use Rattle.mm_base.specs.declared.access.Why.TheVariants as whys
use Rattle.mm_base.specs.declared.bus.Target.{Target}
use Rattle.mm_base.specs.declared.bus.Target.TheVariants.{Service, Code, Other}
use Rattle.mm_base.specs.declared.cells.Saved.{Saved}
use Rattle.platform_model.specs.Cells.{register_in, with_register}
use Rattle.secure_policy.specs.Laws.{passes}
use Rattle.secure_policy.specs.Verdicts.{Basis, verdict_on}
use Rattle.supervisor_calls.specs.Tables.{Site, Live}

-- what verdicts rest on
abbrev pub basis_of : Site → Basis
basis_of site = record { is_home = is_home_at site.images; name_of = name_at site.images; rules = site.policy.rules }

-- the verdict on an access of an image, where the processor was trapped at this access
unfoldable pub decided : Site → ℕ → Kind → ℕ → ℕ → Right → ℕ → Verdict
decided site image kind base n right trapped = verdict_on (basis_of site) image kind base n right trapped

-- What an invocation of an image changes: what a step may change, and its own records.
pub record Acting : Type 0 where
  pub live : Live
  pub records : RecordsState

-- an access that is denied for this
abbrev pub denial_of : Kind → Right → ℕ → ℕ → Why → Denial
denial_of kind right at n why = record { kind = kind; right = right; at = at; n = n; why = why }

-- a denial is recorded, up to the 8th
abbrev pub with_denial : Denial → Acting → Acting
with_denial denial acting =
    if nat_lt (length acting.records.denials) 8
    then record acting { records = record acting.records { denials = acting.records.denials ++ denial ∷ [] } }
    else acting

-- the n bytes at an address: those of the device window, or those of memory
abbrev pub bytes_at : Live → ℕ → ℕ → List ℕ
bytes_at live at n =
    if is_device_byte at then take n (drop (at - 0xfe000000) live.platform.device)
    else take n (drop (at - 0x80000000) live.memory)

-- the same with a piece written over those from an address on
abbrev pub with_bytes : ℕ → List ℕ → Live → Live
with_bytes at piece live =
    if is_device_byte at
    then record live {
      platform = record live.platform {
        device = overwritten live.platform.device (at - 0xfe000000) piece;
      };
    }
    else record live { memory = overwritten live.memory (at - 0x80000000) piece }

-- A fetch answers the bytes in front of zeros, and a read the number in the bytes; where the access is denied, both
-- answer the denial, which is recorded.
abbrev pub answered : {A : Type 0} → Verdict → (Why → Denial) → A → Acting → Result A Denial × Acting
answered (Pass why) denial value acting = (Ok value, acting)
answered (Deny why) denial value acting = (Err (denial why), with_denial (denial why) acting)

-- whether an invocation has made all the cell writes that it may make
abbrev pub has_used_quota : RecordsState → Bool
has_used_quota records = nat_le 16 (length records.writes)

-- whether a write there is one to cells: each but one to memory outside the device window; saved registers are written
-- by nobody
abbrev pub is_cell_write : Kind → ℕ → Bool
is_cell_write kinds.Memory at = is_device_byte at
is_cell_write kinds.Io at = true
is_cell_write kinds.Msr at = true
is_cell_write kinds.Saved at = false

-- a write that the verdict lets pass is denied where it is one to cells, and the invocation has made all that it may
-- make
abbrev pub with_quota : Kind → ℕ → RecordsState → Verdict → Verdict
with_quota kind at records (Pass why) =
    if is_cell_write kind at && has_used_quota records then Deny whys.Quota else Pass why
with_quota kind at records (Deny why) = Deny why

-- The number in n units: the lowest byte or port is the first; a register is one unit.
abbrev pub number_at : Live → Saved → Kind → ℕ → ℕ → ℕ
number_at live saved kinds.Memory at n = number_of (bytes_at live at n)
number_at live saved kinds.Io at n = number_in live.platform.ports at n
number_at live saved kinds.Msr at n = register_in live.platform at
number_at live saved kinds.Saved at n = slice_index saved.0 at

-- the low bytes of a number written to n units, or a whole register
abbrev pub with_number : Kind → ℕ → ℕ → ℕ → Live → Live
with_number kinds.Memory at n value live = with_bytes at (low_bytes n value) live
with_number kinds.Io at n value live =
    record live { platform = record live.platform { ports = overwritten live.platform.ports at (low_bytes n value) } }
with_number kinds.Msr at n value live = record live { platform = with_register at value live.platform }
with_number kinds.Saved at n value live = live

-- the number that n units hold after a number was written to them
abbrev pub held_after : Kind → ℕ → ℕ → ℕ
held_after kinds.Memory n value = number_of (low_bytes n value)
held_after kinds.Io n value = number_of (low_bytes n value)
held_after kinds.Msr n value = value
held_after kinds.Saved n value = value

-- a write to cells is recorded, with the number that they hold after it
abbrev pub with_cell_write : Kind → ℕ → ℕ → ℕ → RecordsState → RecordsState
with_cell_write kind at n value records =
    if is_cell_write kind at
    then record records {
      writes = records.writes ++ record { kind = kind; at = at; n = n; value = held_after kind n value } ∷ [];
    }
    else records

-- A write that passes changes just its units; one that is denied changes the records alone.
abbrev pub changed : Verdict → Kind → ℕ → ℕ → ℕ → Acting → Result (Unit {0}) Denial × Acting
changed (Pass why) kind at n value acting = (
  Ok tt,
  record {
    live = with_number kind at n value acting.live;
    records = with_cell_write kind at n value acting.records;
  },
)
changed (Deny why) kind at n value acting =
    (Err (denial_of kind rights.Write at n why), with_denial (denial_of kind rights.Write at n why) acting)

-- the number of the service whose entry stands at an address of this service page
abbrev pub service_at : ℕ → ℕ → Option ℕ
service_at page at = find (λ number. entry_of page number == at) (range_with_len 0 20)

-- the service of an image with its entry at an address
abbrev pub service_of : Site → ℕ → ℕ → Option ℕ
service_of site image at =
    option_map_or (λ placed. service_at (service_page_of placed.region).base at) (slice_get site.images image) None

-- code stands at an even address where two bytes may be executed
abbrev pub is_code : Site → ℕ → ℕ → ℕ → Bool
is_code site image trapped at = (at % 2 == 0) && passes (decided site image kinds.Memory at 2 rights.Execute trapped)

-- what stands at the target of a native call: an entry of a service, or code, or neither
abbrev pub target_by : Option ℕ → Bool → Target
target_by (Some number) code = Service number
target_by None code = if code then Code else Other
