-- What each turn of an invocation leaves to do.
use Rattle.std.proofs.Common.{◌≡◌, ◌⊎◌, inl, inr, ℕ, zero, suc, Bool, true, false, if◌then◌else◌, Option, Some, None, refl, sym, ap, ◌∙◌, subst, arith}
use Rattle.mm_base.specs.Bus.{Meaning, Answers, IsRefusal}
use Rattle.mm_base.specs.declared.access.Denial.{Denial}
use Rattle.mm_base.specs.declared.bus.Served.{Served}
use Rattle.mm_base.specs.declared.bus.Served.TheVariants.{Status, Stop, NoMemory}
use Rattle.mm_base.specs.declared.invocation.Ended.{Ended}
use Rattle.mm_base.specs.declared.no_memory.NoMemory.{NoMemory as Want}
use Rattle.mm_base.specs.declared.invocation.Ended.TheVariants as ended
use Rattle.mm_base.specs.declared.invocation.FaultKind.{FaultKind}
use Rattle.mm_base.specs.declared.invocation.FaultKind.TheVariants.{Alignment}
use Rattle.ebc_machine.specs.declared.regs.Regs.{Regs}
use Rattle.ebc_machine.specs.declared.turn.Progress.TheVariants as progress
use Rattle.ebc_machine.specs.Operands.{register_in, with_register, at_address, is_odd}
use Rattle.ebc_machine.specs.Rows.{Outcome, Goes, Serves, Returns, Denies, Faults}
use Rattle.ebc_machine.specs.Told.{Tells}
use Rattle.ebc_machine.specs.Stepping.{stepped}
use Rattle.ebc_machine.specs.Invocation.{Call, Final, after_instruction, after_service, turns, misplaced, invoked, Gives}

-- what an invocation ended with, over which bus
abbrev pub final : {B : Type 0} → Ended → Regs → B → Final × B
final end regs bus = (record { ended = end; regs = regs }, bus)

module _ {B : Type 0} (k : Option Call → Regs → B → Final × B) (regs after : Regs) (left : B) where
  went : (x : Outcome × B) → Tells x regs progress.Next after left → after_instruction k regs x ≡ k None after left
  went (Goes regs, bus) t = λ i. k None (sym t.regs_are i) (sym t.bus_is i)
  went (Serves number next, bus) t = let e = t.answer_is in cc
  went (Returns status, bus) t = let e = t.answer_is in cc
  went (Denies denial, bus) t = let e = t.answer_is in cc
  went (Faults kind, bus) t = let e = t.answer_is in cc

  called : (number next : ℕ) (x : Outcome × B)
      → Tells x regs (progress.Service number next) after left
      → after_instruction k regs x ≡ k (Some (record { number = number; next = next })) after left
  called number next (Goes regs, bus) t = let e = t.answer_is in cc
  called number next (Serves one other, bus) t =
      let e : progress.Service number next ≡ progress.Service one other = t.answer_is in
      let first : number ≡ one = cc in
      let second : next ≡ other = cc in
      λ i. k (Some (record { number = sym first i; next = sym second i })) (sym t.regs_are i) (sym t.bus_is i)
  called number next (Returns status, bus) t = let e = t.answer_is in cc
  called number next (Denies denial, bus) t = let e = t.answer_is in cc
  called number next (Faults kind, bus) t = let e = t.answer_is in cc

  came_back : (status : ℕ) (x : Outcome × B)
      → Tells x regs (progress.Returned status) after left
      → after_instruction k regs x ≡ final (ended.Returned status) after left
  came_back status (Goes regs, bus) t = let e = t.answer_is in cc
  came_back status (Serves one other, bus) t = let e = t.answer_is in cc
  came_back status (Returns other, bus) t =
      let e : progress.Returned status ≡ progress.Returned other = t.answer_is in
      let same : status ≡ other = cc in
      λ i. final (ended.Returned (sym same i)) (sym t.regs_are i) (sym t.bus_is i)
  came_back status (Denies denial, bus) t = let e = t.answer_is in cc
  came_back status (Faults kind, bus) t = let e = t.answer_is in cc

  was_denied : (denial : Denial) (x : Outcome × B)
      → Tells x regs (progress.Denied denial) after left
      → after_instruction k regs x ≡ final (ended.Denied denial.why denial.at) after left
  was_denied denial (Goes regs, bus) t = let e = t.answer_is in cc
  was_denied denial (Serves one other, bus) t = let e = t.answer_is in cc
  was_denied denial (Returns status, bus) t = let e = t.answer_is in cc
  was_denied denial (Denies other, bus) t =
      let e : progress.Denied denial ≡ progress.Denied other = t.answer_is in
      let same : denial ≡ other = cc in
      λ i. final (ended.Denied (sym same i).why (sym same i).at) (sym t.regs_are i) (sym t.bus_is i)
  was_denied denial (Faults kind, bus) t = let e = t.answer_is in cc

  failed : (kind : FaultKind) (x : Outcome × B)
      → Tells x regs (progress.Fault kind) after left
      → after_instruction k regs x ≡ final (ended.Fault kind after.ip) after left
  failed kind (Goes regs, bus) t = let e = t.answer_is in cc
  failed kind (Serves one other, bus) t = let e = t.answer_is in cc
  failed kind (Returns status, bus) t = let e = t.answer_is in cc
  failed kind (Denies denial, bus) t = let e = t.answer_is in cc
  failed kind (Faults other, bus) t =
      let e : progress.Fault kind ≡ progress.Fault other = t.answer_is in
      let same : kind ≡ other = cc in
      λ i. final (ended.Fault (sym same i) (sym t.regs_are i).ip) (sym t.regs_are i) (sym t.bus_is i)

module _ {B : Type 0} (k : Option Call → Regs → B → Final × B) (next : ℕ) (regs : Regs) (left : B) where
  served : (status : ℕ) (x : Served × B)
      → Answers x (Status status) left
      → after_service k next regs x ≡ k None (at_address next (with_register 7 status regs)) left
  served status (Status other, bus) a =
      let e = a.0 in
      let same : status ≡ other = cc in
      λ i. k None (at_address next (with_register 7 (sym same i) regs)) (sym a.1 i)
  served status (Stop denial, bus) a = let e = a.0 in cc
  served status (NoMemory refused, bus) a = let e = a.0 in cc

  stopped : (denial : Denial) (x : Served × B)
      → Answers x (Stop denial) left
      → after_service k next regs x ≡ final (ended.Denied denial.why denial.at) regs left
  stopped denial (Status other, bus) a = let e = a.0 in cc
  stopped denial (Stop other, bus) a =
      let e = a.0 in
      let same : denial ≡ other = cc in
      λ i. final (ended.Denied (sym same i).why (sym same i).at) regs (sym a.1 i)
  stopped denial (NoMemory refused, bus) a = let e = a.0 in cc

  wanted : (want : Want) (x : Served × B)
      → Answers x (NoMemory want) left
      → after_service k next regs x ≡ final (ended.NoMemory want) regs left
  wanted want (Status other, bus) a = let e = a.0 in cc
  wanted want (Stop denial, bus) a = let e = a.0 in cc
  wanted want (NoMemory other, bus) a =
      let e = a.0 in
      let same : want ≡ other = cc in
      λ i. final (ended.NoMemory (sym same i)) regs (sym a.1 i)

-- a service that answered otherwise than with out of memory answered by the bus's meaning
pub was_answered : {B : Type 0} (may_refuse : Bool) (x : Served × B) (answer other : Served) (left : B)
    → IsRefusal may_refuse answer ⊎ Answers x answer left
    → answer ≡ other
    → (IsRefusal may_refuse other → ⊥)
    → Answers x other left
was_answered may_refuse x answer other left both is not =
    elim both [
      | inl refused ↦ absurd (not (subst (λ (s : Served). IsRefusal may_refuse s) is refused))
      | inr a ↦ subst (λ (s : Served). Answers x s left) is a
    ]

-- ---- whole turns

module _ {B : Type 0} (m : Meaning B) where
  pub begun : (fuel : ℕ) (regs : Regs) (bus : B) → is_odd regs.ip ≡ false → turns m fuel None regs bus ≡ invoked m fuel regs bus
  unfolding invoked
  begun fuel regs bus even =
      sym (ap (λ (odd : Bool). if◌then◌else◌ {A = Final × B} odd (misplaced regs, bus) (turns m fuel None regs bus)) even)

  pub not_begun : (fuel : ℕ) (regs : Regs) (bus : B)
      → is_odd regs.ip ≡ true
      → Gives (invoked m fuel regs bus) (ended.Fault Alignment regs.ip) regs bus
  unfolding invoked
  not_begun fuel regs bus odd =
      let P : Final × B → Type 0 = λ told. Gives told (ended.Fault Alignment regs.ip) regs bus in
      subst (λ (odd : Bool). P (if◌then◌else◌ {A = Final × B} odd (misplaced regs, bus) (turns m fuel None regs bus)))
      (sym odd) (record { answer_is = refl; regs_are = refl; bus_is = refl })

  module _ (whole : Final × B) where
    -- what an invocation that came to an end gives
    gives : (end : Ended) (regs : Regs) (bus : B) → final end regs bus ≡ whole → Gives whole end regs bus
    gives end regs bus e =
        subst (λ (told : Final × B). Gives told end regs bus) e (record { answer_is = refl; regs_are = refl; bus_is = refl })

    pub out_of_fuel : (fuel : ℕ) (call : Option Call) (regs : Regs) (bus : B)
        → fuel ≡ 0
        → turns m fuel call regs bus ≡ whole
        → Gives whole (ended.Fuel regs.ip) regs bus
    unfolding turns
    out_of_fuel zero call regs bus none e = gives (ended.Fuel regs.ip) regs bus e
    out_of_fuel (suc fuel) call regs bus none e = absurd (some fuel none)
      where
        some : (fuel : ℕ) → suc fuel ≡ 0 → ⊥
        some fuel none = omega arith

    module _ (regs after : Regs) (bus left : B) where
      after_turn : (fuel more : ℕ)
          → fuel ≡ suc more
          → turns m fuel None regs bus ≡ whole
          → after_instruction (turns m more) regs (stepped m regs bus) ≡ whole
      unfolding turns
      after_turn fuel more is e = ap (λ (n : ℕ). turns m n None regs bus) (sym is) ∙ e

      pub next_turn : (fuel more : ℕ)
          → fuel ≡ suc more
          → Tells (stepped m regs bus) regs progress.Next after left
          → turns m fuel None regs bus ≡ whole
          → turns m more None after left ≡ whole
      next_turn fuel more is t e = sym (went (turns m more) regs after left (stepped m regs bus) t) ∙ after_turn fuel more is e

      pub call_turn : (number next fuel more : ℕ)
          → fuel ≡ suc more
          → Tells (stepped m regs bus) regs (progress.Service number next) after left
          → turns m fuel None regs bus ≡ whole
          → turns m more (Some (record { number = number; next = next })) after left ≡ whole
      call_turn number next fuel more is t e =
          sym (called (turns m more) regs after left number next (stepped m regs bus) t) ∙ after_turn fuel more is e

      pub return_turn : (status fuel more : ℕ)
          → fuel ≡ suc more
          → Tells (stepped m regs bus) regs (progress.Returned status) after left
          → turns m fuel None regs bus ≡ whole
          → Gives whole (ended.Returned status) after left
      return_turn status fuel more is t e =
          gives (ended.Returned status) after left
          (sym (came_back (turns m more) regs after left status (stepped m regs bus) t) ∙ after_turn fuel more is e)

      pub denied_turn : (denial : Denial) (fuel more : ℕ)
          → fuel ≡ suc more
          → Tells (stepped m regs bus) regs (progress.Denied denial) after left
          → turns m fuel None regs bus ≡ whole
          → Gives whole (ended.Denied denial.why denial.at) after left
      denied_turn denial fuel more is t e =
          gives (ended.Denied denial.why denial.at) after left
          (sym (was_denied (turns m more) regs after left denial (stepped m regs bus) t) ∙ after_turn fuel more is e)

      pub fault_turn : (kind : FaultKind) (fuel more : ℕ)
          → fuel ≡ suc more
          → Tells (stepped m regs bus) regs (progress.Fault kind) after left
          → turns m fuel None regs bus ≡ whole
          → Gives whole (ended.Fault kind after.ip) after left
      fault_turn kind fuel more is t e =
          gives (ended.Fault kind after.ip) after left
          (sym (failed (turns m more) regs after left kind (stepped m regs bus) t) ∙ after_turn fuel more is e)

    module _ (regs : Regs) (bus left : B) (number next : ℕ) where
      after_call : (fuel more : ℕ)
          → fuel ≡ suc more
          → turns m fuel (Some (record { number = number; next = next })) regs bus ≡ whole
          → after_service (turns m more) next regs (m.serves bus number (register_in 0 regs)) ≡ whole
      unfolding turns
      after_call fuel more is e = ap (λ (n : ℕ). turns m n (Some (record { number = number; next = next })) regs bus) (sym is) ∙ e

      pub status_turn : (status fuel more : ℕ)
          → fuel ≡ suc more
          → Answers (m.serves bus number (register_in 0 regs)) (Status status) left
          → turns m fuel (Some (record { number = number; next = next })) regs bus ≡ whole
          → turns m more None (at_address next (with_register 7 status regs)) left ≡ whole
      status_turn status fuel more is a e =
          sym (served (turns m more) next regs left status (m.serves bus number (register_in 0 regs)) a) ∙ after_call fuel more is e

      pub stop_turn : (denial : Denial) (fuel more : ℕ)
          → fuel ≡ suc more
          → Answers (m.serves bus number (register_in 0 regs)) (Stop denial) left
          → turns m fuel (Some (record { number = number; next = next })) regs bus ≡ whole
          → Gives whole (ended.Denied denial.why denial.at) regs left
      stop_turn denial fuel more is a e =
          gives (ended.Denied denial.why denial.at) regs left
          (sym (stopped (turns m more) next regs left denial (m.serves bus number (register_in 0 regs)) a) ∙ after_call fuel more is e)

      pub want_turn : (want : Want) (fuel more : ℕ)
          → fuel ≡ suc more
          → Answers (m.serves bus number (register_in 0 regs)) (NoMemory want) left
          → turns m fuel (Some (record { number = number; next = next })) regs bus ≡ whole
          → Gives whole (ended.NoMemory want) regs left
      want_turn want fuel more is a e =
          gives (ended.NoMemory want) regs left
          (sym (wanted (turns m more) next regs left want (m.serves bus number (register_in 0 regs)) a) ∙ after_call fuel more is e)
