-- How what an instruction comes to is told, and what it leaves of the registers.
use Rattle.std.specs.Prelude.{◌≡◌, ℕ, ◌<◌}
use Rattle.mm_base.specs.Bus.{Meaning}
use Rattle.ebc_machine.specs.declared.regs.Regs.{Regs}
use Rattle.ebc_machine.specs.declared.turn.Turn.{Turn}
use Rattle.ebc_machine.specs.declared.turn.Turn.TheVariants as turns
use Rattle.ebc_machine.specs.declared.turn.Progress.{Progress}
use Rattle.ebc_machine.specs.declared.turn.Progress.TheVariants as progress
use Rattle.ebc_machine.specs.Rows.{Outcome, Goes, Serves, Returns, Denies, Faults, Row, performed}

-- the registers after an instruction that comes to this: they change only where it is done
abbrev pub left_of : Outcome → Regs → Regs
left_of (Goes after) regs = after
left_of (Serves number next) regs = regs
left_of (Returns status) regs = regs
left_of (Denies denial) regs = regs
left_of (Faults kind) regs = regs

-- what `step` answers; a fault names the instruction's address
abbrev pub answer_of : Outcome → ℕ → Turn
answer_of (Goes after) at = turns.Next
answer_of (Serves number next) at = turns.Service number
answer_of (Returns status) at = turns.Returned status
answer_of (Denies denial) at = turns.Denied denial
answer_of (Faults kind) at = turns.Fault kind at

-- the same inside the crate, with what a service goes on with
abbrev pub progress_of : Outcome → Progress
progress_of (Goes after) = progress.Next
progress_of (Serves number next) = progress.Service number next
progress_of (Returns status) = progress.Returned status
progress_of (Denies denial) = progress.Denied denial
progress_of (Faults kind) = progress.Fault kind

abbrev pub turn_of : Progress → ℕ → Turn
turn_of progress.Next at = turns.Next
turn_of (progress.Service number next) at = turns.Service number
turn_of (progress.Returned status) at = turns.Returned status
turn_of (progress.Denied denial) at = turns.Denied denial
turn_of (progress.Fault kind) at = turns.Fault kind at

-- a service that is called has a number below 20
abbrev pub IsNumbered : Progress → Type 0
IsNumbered (progress.Service number next) = number < 20
IsNumbered progress.Next = Unit {0}
IsNumbered (progress.Returned status) = Unit {0}
IsNumbered (progress.Denied denial) = Unit {0}
IsNumbered (progress.Fault kind) = Unit {0}

-- this is told of an outcome and a bus, and these registers and that bus are left
pub record Tells {B : Type 0} (told : Outcome × B) (before : Regs) (answer : Progress) (after : Regs) (left : B) : Type 0 where
  pub answer_is : answer ≡ progress_of told.0
  pub regs_are : after ≡ left_of told.0 before
  pub bus_is : left ≡ told.1
  pub numbered : IsNumbered answer

-- the same of a row over a bus
abbrev pub Does : {B : Type 0} → Meaning B → Row → Regs → B → Progress → Regs → B → Type 0
Does m row before bus answer after left = Tells (performed m row bus) before answer after left
