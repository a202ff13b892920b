-- What an instruction does over a bus, as data. A row takes values, each from where the registers and the values before it
-- say; it may ask what stands at the target of a native call; and it comes to something, after one write or none. What a
-- row does over a bus is one function, whatever the bus.
use Rattle.std.specs.Prelude.{ℕ, ◌%◌, ◌^◌, Result, Ok, Err}
use Rattle.mm_base.specs.Bus.{Meaning}
use Rattle.mm_base.specs.declared.access.Denial.{Denial}
use Rattle.mm_base.specs.declared.bus.Target.{Target}
use Rattle.mm_base.specs.declared.invocation.FaultKind.{FaultKind}
use Rattle.ebc_machine.specs.declared.place.Source.{Source}
use Rattle.ebc_machine.specs.declared.place.Source.TheVariants.{Held, At}
use Rattle.ebc_machine.specs.declared.place.Destination.{Destination}
use Rattle.ebc_machine.specs.declared.place.Destination.TheVariants.{Register, Memory}
use Rattle.ebc_machine.specs.declared.regs.Regs.{Regs}
use Rattle.ebc_machine.specs.Operands.{with_register, at_address}

-- What an instruction comes to.
pub data Outcome : Type 0 where
  -- It is done, and these are the registers after it.
  Goes : (regs : Regs) → Outcome
  -- It is a native call of the service with this number; the instruction at `next` comes after it.
  Serves : (number next : ℕ) → Outcome
  -- The invocation returns this status.
  Returns : (status : ℕ) → Outcome
  -- An access was denied.
  Denies : (denial : Denial) → Outcome
  Faults : (kind : FaultKind) → Outcome

pub data Row : Type 0 where
  -- the value of a source of n bytes, and what is done with it
  Takes : (from : Source) (n : ℕ) (rest : ℕ → Row) → Row
  -- what stands at the target of a native call
  Asks : (at : ℕ) (rest : Target → Row) → Row
  -- n bytes are written, and this comes of it
  Puts : (at n value : ℕ) (after : Outcome) → Row
  -- this comes of it, and nothing is written
  Comes : (to : Outcome) → Row

-- the low n bytes of a value
abbrev pub low : ℕ → ℕ → ℕ
low n value = value % 256 ^ n

-- the low n bytes of a value go to a register, which clears its rest, or to memory; then the next instruction comes
abbrev pub puts : Destination → ℕ → ℕ → ℕ → Regs → Row
puts (Register register) n value next regs = Comes (Goes (at_address next (with_register register (low n value) regs)))
puts (Memory at) n value next regs = Puts at n (low n value) (Goes (at_address next regs))

-- the value of a source, which is read where it isn't at hand
abbrev pub taken : {B : Type 0} → Meaning B → B → Source → ℕ → Result ℕ Denial × B
taken m bus (Held value) n = (Ok value, bus)
taken m bus (At place) n = m.reads bus place n

-- what goes on with an answer; a denial ends it
abbrev pub going_on : {A B : Type 0} → (A → B → Outcome × B) → Result A Denial × B → Outcome × B
going_on rest (Ok answer, bus) = rest answer bus
going_on rest (Err denial, bus) = (Denies denial, bus)

-- What a row comes to over a bus, and the bus after it.
abbrev pub performed : {B : Type 0} → Meaning B → Row → B → Outcome × B
performed m (Takes from n rest) bus = going_on (λ value left. performed m (rest value) left) (taken m bus from n)
performed m (Asks at rest) bus = performed m (rest (m.targets bus at)) bus
performed m (Puts at n value after) bus = going_on (λ _ left. (after, left)) (m.writes bus at n value)
performed m (Comes to) bus = (to, bus)
