-- What each call of a bus keeps, an invocation keeps: one line a constructor.
use Rattle.std.proofs.Common.{◌≡◌, ℕ, zero, suc, ◌+◌, ◌%◌, ◌^◌, Bool, true, false, if◌then◌else◌, take, get_or, Option, Some, None, Result, Ok, Err, refl, ◌∙◌}
use Rattle.mm_base.specs.Bus.{Meaning}
use Rattle.mm_base.specs.declared.access.Denial.{Denial}
use Rattle.mm_base.specs.declared.bus.Served.{Served}
use Rattle.mm_base.specs.declared.bus.Served.TheVariants.{Status, Stop, NoMemory}
use Rattle.ebc_decode.specs.declared.ins.Ins.{Ins}
use Rattle.ebc_decode.specs.Decoding.{length_begun, instruction_begun}
use Rattle.ebc_machine.specs.declared.place.Source.{Source}
use Rattle.ebc_machine.specs.declared.place.Source.TheVariants.{Held, At}
use Rattle.ebc_machine.specs.declared.regs.Regs.{Regs}
use Rattle.ebc_machine.specs.Operands.{register_in, is_odd}
use Rattle.ebc_machine.specs.Rows.{Outcome, Goes, Serves, Returns, Denies, Faults, Row, Takes, Asks, Puts, Comes, taken, going_on, performed}
use Rattle.ebc_machine.specs.Instructions.{row_of}
use Rattle.ebc_machine.specs.Stepping.{executed, fetched_whole, stepped}
use Rattle.ebc_machine.specs.Invocation.{Call, Final, after_instruction, after_service, turns, misplaced, invoked}
use Rattle.ebc_machine.specs.Laws.{Keeps, Leaves}

module _ {A : Type 0} (P : A → Type 0) where
  going_keeps : {T : Type 0} (x : Result T Denial × A) (k : T → A → Outcome × A)
      → P x.1
      → ((v : T) (a : A) → P a → P (k v a).1)
      → P (going_on k x).1
  going_keeps (Ok v, a) k p e = e v a p
  going_keeps (Err denial, a) k p e = p

  instruction_keeps : (regs : Regs) (x : Outcome × A) (k : Option Call → Regs → A → Final × A)
      → P x.1
      → ((call : Option Call) (regs : Regs) (a : A) → P a → P (k call regs a).1)
      → P (after_instruction k regs x).1
  instruction_keeps regs (Goes after, a) k p e = e None after a p
  instruction_keeps regs (Serves number next, a) k p e = e (Some (record { number = number; next = next })) regs a p
  instruction_keeps regs (Returns status, a) k p e = p
  instruction_keeps regs (Denies denial, a) k p e = p
  instruction_keeps regs (Faults kind, a) k p e = p

  service_keeps : (next : ℕ) (regs : Regs) (x : Served × A) (k : Option Call → Regs → A → Final × A)
      → P x.1
      → ((call : Option Call) (regs : Regs) (a : A) → P a → P (k call regs a).1)
      → P (after_service k next regs x).1
  service_keeps next regs (Status status, a) k p e = e None _ a p
  service_keeps next regs (Stop denial, a) k p e = p
  service_keeps next regs (NoMemory refused, a) k p e = p

module _ {A : Type 0} (P : A → Type 0) (m : Meaning A) (c : Keeps P m) where
  taken_keeps : (from : Source) (count : ℕ) (a : A) → P a → P (taken m a from count).1
  taken_keeps (Held value) count a p = p
  taken_keeps (At place) count a p = c.reads a place count p

  pub performed_keeps : (row : Row) (a : A) → P a → P (performed m row a).1
  performed_keeps (Takes from count rest) a p =
      going_keeps P (taken m a from count) (λ value left. performed m (rest value) left) (taken_keeps from count a p)
      (λ value left q. performed_keeps (rest value) left q)
  performed_keeps (Asks at rest) a p = performed_keeps (rest (m.targets a at)) a p
  performed_keeps (Puts at count value after) a p =
      going_keeps P (m.writes a at count value) (λ _ left. (after, left)) (c.writes a at count value p) (λ _ left q. q)
  performed_keeps (Comes to) a p = p

  executed_keeps : (regs : Regs) (there : Option (Ins × ℕ)) (a : A) → P a → P (executed m regs there a).1
  executed_keeps regs None a p = p
  executed_keeps regs (Some (ins, size)) a p = performed_keeps (row_of ins ((regs.ip + size) % 2 ^ 64) regs) a p

  whole_keeps : (regs : Regs) (there : Option ℕ) (a : A) → P a → P (fetched_whole m regs there a).1
  whole_keeps regs None a p = p
  whole_keeps regs (Some size) a p =
      going_keeps P (m.fetches a regs.ip size) (λ bytes left. executed m regs (instruction_begun (take size bytes)) left)
      (c.fetches a regs.ip size p) (λ bytes left q. executed_keeps regs (instruction_begun (take size bytes)) left q)

  pub stepped_keeps : (regs : Regs) (a : A) → P a → P (stepped m regs a).1
  unfolding stepped
  stepped_keeps regs a p =
      going_keeps P (m.fetches a regs.ip 2) (λ two left. fetched_whole m regs (length_begun (get_or two 0 0) (get_or two 1 0)) left)
      (c.fetches a regs.ip 2 p) (λ two left q. whole_keeps regs (length_begun (get_or two 0 0) (get_or two 1 0)) left q)

  turns_keeps : (fuel : ℕ) (call : Option Call) (regs : Regs) (a : A) → P a → P (turns m fuel call regs a).1
  unfolding turns
  turns_keeps zero call regs a p = p
  turns_keeps (suc fuel) None regs a p =
      instruction_keeps P regs (stepped m regs a) (turns m fuel) (stepped_keeps regs a p) (turns_keeps fuel)
  turns_keeps (suc fuel) (Some call) regs a p =
      service_keeps P call.next regs (m.serves a call.number (register_in 0 regs)) (turns m fuel)
      (c.serves a call.number (register_in 0 regs) p) (turns_keeps fuel)

  pub invoked_keeps : (fuel : ℕ) (regs : Regs) (a : A) → P a → P (invoked m fuel regs a).1
  unfolding invoked
  invoked_keeps fuel regs a p = by_test (is_odd regs.ip)
    where
      by_test : (odd : Bool) → P (if◌then◌else◌ {A = Final × A} odd (misplaced regs, a) (turns m fuel None regs a)).1
      by_test true = p
      by_test false = turns_keeps fuel None regs a p

-- the same of a test
pub test_kept : {A : Type 0} (holds : A → Bool) (m : Meaning A)
    → Keeps (λ a. holds a ≡ true) m
    → (fuel : ℕ) (regs : Regs) (a : A)
    → holds a ≡ true
    → holds (invoked m fuel regs a).1 ≡ true
test_kept holds m c fuel regs a p = invoked_keeps (λ a. holds a ≡ true) m c fuel regs a p

pub invoked_leaves : {A C : Type 0} (h : A → C) (m : Meaning A)
    → Leaves h m
    → (fuel : ℕ) (regs : Regs) (a : A)
    → h (invoked m fuel regs a).1 ≡ h a
invoked_leaves h m l fuel regs a =
    invoked_keeps (λ b. h b ≡ h a) m
    (record {
      fetches = λ b at count e. l.fetches b at count ∙ e;
      reads = λ b at count e. l.reads b at count ∙ e;
      writes = λ b at count value e. l.writes b at count value ∙ e;
      serves = λ b number stack e. l.serves b number stack ∙ e;
    })
    fuel regs a refl
