-- Laws of what byte code does over a bus, whatever the bus: they know only what each of its calls answers and leaves.
use Rattle.std.specs.Prelude.{◌≡◌, ℕ, zero, suc}
use Rattle.mm_base.specs.Bus.{Meaning}
use Rattle.mm_base.specs.declared.invocation.Ended.{Ended}
use Rattle.mm_base.specs.declared.invocation.Ended.TheVariants as ended
use Rattle.ebc_decode.specs.declared.ins.Ins.{Ins}
use Rattle.ebc_machine.specs.declared.regs.Regs.{Regs}
use Rattle.ebc_machine.specs.Rows.{Outcome, Goes, Serves, Returns, Denies, Faults, Row, Takes, Asks, Puts, Comes}
use Rattle.ebc_machine.specs.Instructions.{row_of}

-- the same answer, and the map of what is left
abbrev pub mapped : {T A B : Type 0} → (A → B) → T × A → T × B
mapped h answered = (answered.0, h answered.1)

-- Each call of the second bus is that of the first one, through a map of buses.
pub record Carries {A B : Type 0} (h : A → B) (m : Meaning A) (n : Meaning B) : Type 0 where
  pub fetches : (a : A) (at count : ℕ) → n.fetches (h a) at count ≡ mapped h (m.fetches a at count)
  pub reads : (a : A) (at count : ℕ) → n.reads (h a) at count ≡ mapped h (m.reads a at count)
  pub writes : (a : A) (at count value : ℕ) → n.writes (h a) at count value ≡ mapped h (m.writes a at count value)
  pub targets : (a : A) (at : ℕ) → n.targets (h a) at ≡ m.targets a at
  pub serves : (a : A) (number stack : ℕ) → n.serves (h a) number stack ≡ mapped h (m.serves a number stack)

-- Each call of a bus keeps what holds of it.
pub record Keeps {A : Type 0} (P : A → Type 0) (m : Meaning A) : Type 0 where
  pub fetches : (a : A) (at count : ℕ) → P a → P (m.fetches a at count).1
  pub reads : (a : A) (at count : ℕ) → P a → P (m.reads a at count).1
  pub writes : (a : A) (at count value : ℕ) → P a → P (m.writes a at count value).1
  pub serves : (a : A) (number stack : ℕ) → P a → P (m.serves a number stack).1

-- No call of a bus changes what this tells of it.
pub record Leaves {A C : Type 0} (h : A → C) (m : Meaning A) : Type 0 where
  pub fetches : (a : A) (at count : ℕ) → h (m.fetches a at count).1 ≡ h a
  pub reads : (a : A) (at count : ℕ) → h (m.reads a at count).1 ≡ h a
  pub writes : (a : A) (at count value : ℕ) → h (m.writes a at count value).1 ≡ h a
  pub serves : (a : A) (number stack : ℕ) → h (m.serves a number stack).1 ≡ h a

-- an invocation ended otherwise than by its fuel
abbrev pub IsDone : Ended → Type 0
IsDone (ended.Fuel at) = ⊥
IsDone _ = Unit {0}

-- something holds of a number one less, and none is below 0
abbrev pub one_less : ℕ → (ℕ → Type 0) → Type 0
one_less zero P = ⊥
one_less (suc n) P = P n

-- what comes after a write is the next instruction
abbrev pub IsNext : Outcome → Type 0
IsNext (Goes regs) = Unit {0}
IsNext (Serves number next) = ⊥
IsNext (Returns status) = ⊥
IsNext (Denies denial) = ⊥
IsNext (Faults kind) = ⊥

-- A row takes at most so many values, and where it writes the next instruction comes: what ends in a fault writes nothing.
abbrev pub IsShort : Row → ℕ → Type 0
IsShort (Takes from n rest) most = one_less most (λ less. (value : ℕ) → IsShort (rest value) less)
IsShort (Asks at rest) most = (there : _) → IsShort (rest there) most
IsShort (Puts at n value after) most = IsNext after
IsShort (Comes to) most = Unit {0}

-- Each instruction takes at most two values.
abbrev pub RowsAreShort : Type 0
RowsAreShort = (ins : Ins) (next : ℕ) (regs : Regs) → IsShort (row_of ins next regs) 2
