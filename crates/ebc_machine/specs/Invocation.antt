-- A whole invocation under fuel. Each turn costs one unit, taken before it is made: an instruction is a turn, and a service that it
-- calls is one more. Until the service is made the registers are those at its call, so fuel that is used up there names the call.
use Rattle.std.specs.Prelude.{◌≡◌, ℕ, zero, suc, ◌+◌, ◌-◌, List, [], ◌∷◌, Option, Some, None, Result, Ok, Err, if◌then◌else◌, replicate, Bool, true, false}
use Rattle.mm_base.specs.Bus.{Meaning}
use Rattle.mm_base.specs.declared.access.Denial.{Denial}
use Rattle.mm_base.specs.declared.bus.Served.{Served}
use Rattle.mm_base.specs.declared.bus.Served.TheVariants.{Status, Stop, NoMemory}
use Rattle.mm_base.specs.declared.invocation.Ended.{Ended}
use Rattle.mm_base.specs.declared.invocation.Ended.TheVariants as ended
use Rattle.mm_base.specs.declared.invocation.FaultKind.TheVariants.{Alignment}
use Rattle.ebc_machine.specs.declared.regs.Regs.{Regs}
use Rattle.ebc_machine.specs.Operands.{register_in, with_register, at_address, is_odd}
use Rattle.ebc_machine.specs.Rows.{Outcome, Goes, Serves, Returns, Denies, Faults}
use Rattle.ebc_machine.specs.Stepping.{stepped}

-- a service that was called and isn't made: its number, and the address of the instruction after its call
pub record Call : Type 0 where
  pub number : ℕ
  pub next : ℕ

-- how an invocation ended, with the registers
pub record Final : Type 0 where
  pub ended : Ended
  pub regs : Regs

-- what comes after a turn: the next one, or the end
abbrev pub after_instruction : {B : Type 0} → (Option Call → Regs → B → Final × B) → Regs → Outcome × B → Final × B
after_instruction more regs (Goes after, bus) = more None after bus
after_instruction more regs (Serves number next, bus) = more (Some (record { number = number; next = next })) regs bus
after_instruction more regs (Returns status, bus) = (record { ended = ended.Returned status; regs = regs }, bus)
after_instruction more regs (Denies denial, bus) = (record { ended = ended.Denied denial.why denial.at; regs = regs }, bus)
after_instruction more regs (Faults kind, bus) = (record { ended = ended.Fault kind regs.ip; regs = regs }, bus)

-- the status of a service goes to R7
abbrev pub after_service : {B : Type 0} → (Option Call → Regs → B → Final × B) → ℕ → Regs → Served × B → Final × B
after_service more next regs (Status status, bus) = more None (at_address next (with_register 7 status regs)) bus
after_service more next regs (Stop denial, bus) = (record { ended = ended.Denied denial.why denial.at; regs = regs }, bus)
after_service more next regs (NoMemory refused, bus) = (record { ended = ended.NoMemory refused; regs = regs }, bus)

-- All turns, from some registers and maybe a service to make, with this much fuel.
unfoldable pub turns : {B : Type 0} → Meaning B → ℕ → Option Call → Regs → B → Final × B
turns m zero call regs bus = (record { ended = ended.Fuel regs.ip; regs = regs }, bus)
turns m (suc fuel) None regs bus = after_instruction (turns m fuel) regs (stepped m regs bus)
turns m (suc fuel) (Some call) regs bus =
    after_service (turns m fuel) call.next regs (m.serves bus call.number (register_in 0 regs))

-- where no code stands an invocation ends at once
abbrev pub misplaced : Regs → Final
misplaced regs = record { ended = ended.Fault Alignment regs.ip; regs = regs }

-- An invocation: it doesn't begin at an odd address.
unfoldable pub invoked : {B : Type 0} → Meaning B → ℕ → Regs → B → Final × B
invoked m fuel regs bus =
    if is_odd regs.ip then (misplaced regs, bus) else turns m fuel None regs bus

-- an invocation ended with out of memory, over a bus whose services may be refused it
abbrev pub IsRefusal : Bool → Ended → Type 0
IsRefusal may_refuse (ended.NoMemory refused) = may_refuse ≡ true
IsRefusal may_refuse _ = ⊥

-- this is told of an invocation, and these registers and that bus are left
pub record Gives {B : Type 0} (told : Final × B) (answer : Ended) (after : Regs) (left : B) : Type 0 where
  pub answer_is : answer ≡ told.0.ended
  pub regs_are : after ≡ told.0.regs
  pub bus_is : left ≡ told.1

-- ---- the call frame, which is this project's own: 48 bytes below the end of the stack, with two words of 0 and four arguments

abbrev pub frame : List ℕ → List ℕ
frame arguments = 0 ∷ 0 ∷ arguments

-- words are written one after another; a denial ends it
abbrev pub written_on : {B : Type 0} → (B → Result (Unit {0}) Denial × B) → Result (Unit {0}) Denial × B → Result (Unit {0}) Denial × B
written_on more (Ok done, left) = more left
written_on more (Err denial, left) = (Err denial, left)

abbrev pub written : {B : Type 0} → Meaning B → ℕ → List ℕ → B → Result (Unit {0}) Denial × B
written m at [] bus = (Ok tt, bus)
written m at (word ∷ words) bus = written_on (written m (at + 8) words) (m.writes bus at 8 word)

-- the registers with which an invocation begins: all 0, but for the stack pointer and the address
abbrev pub opening : ℕ → ℕ → Regs
opening stack address = record { r = (stack - 48) ∷ replicate 7 0; carry = false; ip = address }

abbrev pub opened : {B : Type 0} → Regs → Result (Unit {0}) Denial × B → Result Regs Denial × B
opened regs (Ok done, left) = (Ok regs, left)
opened regs (Err denial, left) = (Err denial, left)

-- The frame is written below the end of the stack, and the registers are told with which the invocation begins.
unfoldable pub entered : {B : Type 0} → Meaning B → ℕ → ℕ → List ℕ → B → Result Regs Denial × B
entered m stack address arguments bus = opened (opening stack address) (written m (stack - 48) (frame arguments) bus)
