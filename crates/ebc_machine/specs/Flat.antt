-- A bus over one run of bytes that stand from an address on.
use Rattle.std.specs.Prelude.{ℕ, ◌+◌, ◌-◌, Bool, not, ◌&&◌, nat_le, if◌then◌else◌, List, ◌++◌, length, take, drop, replicate, Option, Some, None, Result, Ok, Err}
use Rattle.mm_base.specs.Bus.{Meaning}
use Rattle.mm_base.specs.Numbers.{number_in, low_bytes, overwritten}
use Rattle.mm_base.specs.Statuses.{unsupported}
use Rattle.mm_base.specs.declared.access.Denial.{Denial}
use Rattle.mm_base.specs.declared.access.Kind.TheVariants as kinds
use Rattle.mm_base.specs.declared.access.Right.{Right}
use Rattle.mm_base.specs.declared.access.Right.TheVariants as rights
use Rattle.mm_base.specs.declared.access.Why.TheVariants as whys
use Rattle.mm_base.specs.declared.bus.Served.TheVariants.{Status}
use Rattle.mm_base.specs.declared.bus.Target.{Target}
use Rattle.mm_base.specs.declared.bus.Target.TheVariants.{Code, Other}
use Rattle.ebc_machine.specs.Operands.{is_odd}

-- The bytes, and the address of the first of them.
pub record FlatState : Type 0 where
  pub base : ℕ
  pub bytes : List ℕ

-- n bytes from an address lie in them
abbrev pub lies_in : FlatState → ℕ → ℕ → Bool
lies_in flat at n = nat_le flat.base at && nat_le (at + n) (flat.base + length flat.bytes)

-- an access is denied: it is out of range
abbrev pub out_of_range : Right → ℕ → ℕ → Denial
out_of_range right at n = record { kind = kinds.Memory; right = right; at = at; n = n; why = whys.Range }

-- the 18 bytes from a place on, where those past the end are 0
unfoldable pub front_from : List ℕ → ℕ → List ℕ
front_from bytes place = take 18 (drop place bytes) ++ replicate (18 - length (drop place bytes)) 0

-- where n bytes from an address stand, if they lie in the bytes
abbrev pub place_in : FlatState → ℕ → ℕ → Option ℕ
place_in flat at n = if lies_in flat at n then Some (at - flat.base) else None

-- an access to a place passes, and one to none is denied
abbrev pub fetched : FlatState → ℕ → ℕ → Option ℕ → Result (List ℕ) Denial × FlatState
fetched flat at n (Some place) = (Ok (front_from flat.bytes place), flat)
fetched flat at n None = (Err (out_of_range rights.Execute at n), flat)

abbrev pub was_read : FlatState → ℕ → ℕ → Option ℕ → Result ℕ Denial × FlatState
was_read flat at n (Some place) = (Ok (number_in flat.bytes place n), flat)
was_read flat at n None = (Err (out_of_range rights.Read at n), flat)

abbrev pub was_written : FlatState → ℕ → ℕ → ℕ → Option ℕ → Result (Unit {0}) Denial × FlatState
was_written flat at n value (Some place) =
    (Ok tt, record flat { bytes = overwritten flat.bytes place (low_bytes n value) })
was_written flat at n value None = (Err (out_of_range rights.Write at n), flat)

-- code stands at an even address where two bytes lie
abbrev pub target_at : FlatState → ℕ → Target
target_at flat at = if not (is_odd at) && lies_in flat at 2 then Code else Other

-- what the bus does; there are no services
abbrev pub flat_meaning : Meaning FlatState
flat_meaning = record {
  fetches = λ flat at n. fetched flat at n (place_in flat at n);
  reads = λ flat at n. was_read flat at n (place_in flat at n);
  writes = λ flat at n value. was_written flat at n value (place_in flat at n);
  targets = target_at;
  serves = λ flat number stack. (Status unsupported, flat);
}
