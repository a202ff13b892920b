-- What each call of a bus keeps, an invocation keeps, its frame included.
use Rattle.std.proofs.Common.{ℕ, ◌+◌, ◌-◌, List, [], ◌∷◌, Result, Ok, Err}
use Rattle.ebc_machine.specs.Invocation.{entered, frame, opened, opening, written, written_on}
use Rattle.ebc_machine.specs.Laws.{Keeps}
use Rattle.ebc_machine.specs.declared.regs.Regs.{Regs}
use Rattle.ebc_machine.proofs.KeepLemmas.{invoked_keeps}
use Rattle.mm_base.specs.Bus.{Meaning}
use Rattle.mm_base.specs.declared.access.Denial.{Denial}
use Rattle.domain_runs.specs.Runs.{ending}

module _ {B : Type 0} (P : B → Type 0) (m : Meaning B) (keeps : Keeps P m) where
  on_keeps : (x : Result (Unit {0}) Denial × B) (more : B → Result (Unit {0}) Denial × B) → P x.1 → ((b : B) → P b → P (more b).1)
      → P (written_on more x).1
  on_keeps (Ok done, left) more p then = then left p
  on_keeps (Err denial, left) more p then = p

  written_keeps : (at : ℕ) (words : List ℕ) (bus : B) → P bus → P (written m at words bus).1
  written_keeps at [] bus p = p
  written_keeps at (word ∷ words) bus p =
      on_keeps (m.writes bus at 8 word) (written m (at + 8) words) (keeps.writes bus at 8 word p) (written_keeps (at + 8) words)

  opened_keeps : (regs : Regs) (x : Result (Unit {0}) Denial × B) → P x.1 → P (opened regs x).1
  opened_keeps regs (Ok done, left) p = p
  opened_keeps regs (Err denial, left) p = p

  entered_keeps : (stack address : ℕ) (arguments : List ℕ) (bus : B) → P bus → P (entered m stack address arguments bus).1
  unfolding entered
  entered_keeps stack address arguments bus p =
      opened_keeps (opening stack address) (written m (stack - 48) (frame arguments) bus) (written_keeps (stack - 48) (frame arguments) bus p)

  ending_keeps : (fuel : ℕ) (x : Result Regs Denial × B) → P x.1 → P (ending m fuel x).1
  ending_keeps fuel (Ok regs, bus) p = invoked_keeps P m keeps fuel regs bus p
  ending_keeps fuel (Err denial, bus) p = p

pub run_keeps : {B : Type 0} (P : B → Type 0) (m : Meaning B) → Keeps P m
    → (fuel stack address : ℕ) (arguments : List ℕ) (bus : B) → P bus
    → P (ending m fuel (entered m stack address arguments bus)).1
run_keeps P m keeps fuel stack address arguments bus p =
    ending_keeps P m keeps fuel (entered m stack address arguments bus) (entered_keeps P m keeps stack address arguments bus p)
