-- What bytes come to: a value, or a fault.
use Rattle.std.specs.Prelude.{Result, Ok, Err}

-- They come to this, where these tell which values and which faults they have.
abbrev pub IsVerdict : {Value Fault : Type 0} → (Value → Type 0) → (Fault → Type 0) → Result Value Fault → Type 0
IsVerdict Is Has (Ok value) = Is value
IsVerdict Is Has (Err fault) = Has fault
