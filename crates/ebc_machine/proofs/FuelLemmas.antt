-- More fuel changes nothing of an invocation that ended otherwise than by its fuel.
use Rattle.std.proofs.Common.{◌≡◌, ℕ, zero, suc, ◌+◌, Bool, true, false, if◌then◌else◌, Option, Some, None, refl, arith}
use Rattle.mm_base.specs.Bus.{Meaning}
use Rattle.mm_base.specs.declared.bus.Served.{Served}
use Rattle.mm_base.specs.declared.bus.Served.TheVariants.{Status, Stop, NoMemory}
use Rattle.ebc_machine.specs.declared.regs.Regs.{Regs}
use Rattle.ebc_machine.specs.Operands.{register_in, is_odd}
use Rattle.ebc_machine.specs.Rows.{Outcome, Goes, Serves, Returns, Denies, Faults}
use Rattle.ebc_machine.specs.Stepping.{stepped}
use Rattle.ebc_machine.specs.Invocation.{Call, Final, after_instruction, after_service, turns, misplaced, invoked}
use Rattle.ebc_machine.specs.Laws.{IsDone}

module _ {A : Type 0} (k l : Option Call → Regs → A → Final × A) where
  -- what goes on alike wherever it is done
  abbrev Alike : Type 0
  Alike = (call : Option Call) (regs : Regs) (a : A) → IsDone (k call regs a).0.ended → l call regs a ≡ k call regs a

  instruction_alike : (regs : Regs) (x : Outcome × A)
      → Alike
      → IsDone (after_instruction k regs x).0.ended
      → after_instruction l regs x ≡ after_instruction k regs x
  instruction_alike regs (Goes after, a) e done = e None after a done
  instruction_alike regs (Serves number next, a) e done = e (Some (record { number = number; next = next })) regs a done
  instruction_alike regs (Returns status, a) e done = refl
  instruction_alike regs (Denies denial, a) e done = refl
  instruction_alike regs (Faults kind, a) e done = refl

  service_alike : (next : ℕ) (regs : Regs) (x : Served × A)
      → Alike
      → IsDone (after_service k next regs x).0.ended
      → after_service l next regs x ≡ after_service k next regs x
  service_alike next regs (Status status, a) e done = e None _ a done
  service_alike next regs (Stop denial, a) e done = refl
  service_alike next regs (NoMemory refused, a) e done = refl

module _ {A : Type 0} (m : Meaning A) where
  turns_alike : (more fuel sum : ℕ) (call : Option Call) (regs : Regs) (a : A)
      → sum ≡ fuel + more
      → IsDone (turns m fuel call regs a).0.ended
      → turns m sum call regs a ≡ turns m fuel call regs a
  unfolding turns
  turns_alike more zero sum call regs a is done = absurd done
  turns_alike more (suc fuel) zero call regs a is done = absurd (none more fuel is)
    where
      none : (more fuel : ℕ) → 0 ≡ suc fuel + more → ⊥
      none more fuel is = omega arith
  turns_alike more (suc fuel) (suc sum) None regs a is done =
      let less : sum ≡ fuel + more = omega arith in
      instruction_alike (turns m fuel) (turns m sum) regs (stepped m regs a)
      (λ call regs a done. turns_alike more fuel sum call regs a less done) done
  turns_alike more (suc fuel) (suc sum) (Some call) regs a is done =
      let less : sum ≡ fuel + more = omega arith in
      service_alike (turns m fuel) (turns m sum) call.next regs (m.serves a call.number (register_in 0 regs))
      (λ call regs a done. turns_alike more fuel sum call regs a less done) done

pub more_fuel : {A : Type 0} (m : Meaning A) (fuel more : ℕ) (regs : Regs) (a : A)
    → IsDone (invoked m fuel regs a).0.ended
    → invoked m (fuel + more) regs a ≡ invoked m fuel regs a
unfolding invoked
more_fuel {A} m fuel more regs a = by_test (is_odd regs.ip)
  where
    begun : Bool → ℕ → Final × A
    begun odd fuel = if◌then◌else◌ {A = Final × A} odd (misplaced regs, a) (turns m fuel None regs a)

    by_test : (odd : Bool) → IsDone (begun odd fuel).0.ended → begun odd (fuel + more) ≡ begun odd fuel
    by_test true done = refl
    by_test false done = turns_alike m more fuel (fuel + more) None regs a refl done
