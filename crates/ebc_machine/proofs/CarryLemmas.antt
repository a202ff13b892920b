-- An invocation goes along with a map of buses: one line a constructor.
use Rattle.std.proofs.Common.{◌≡◌, ℕ, zero, suc, ◌+◌, ◌%◌, ◌^◌, Bool, true, false, if◌then◌else◌, take, get_or, Option, Some, None, Result, Ok, Err, refl, ap, ◌∙◌}
use Rattle.mm_base.specs.Bus.{Meaning}
use Rattle.mm_base.specs.declared.access.Denial.{Denial}
use Rattle.mm_base.specs.declared.bus.Served.{Served}
use Rattle.mm_base.specs.declared.bus.Served.TheVariants.{Status, Stop, NoMemory}
use Rattle.ebc_decode.specs.declared.ins.Ins.{Ins}
use Rattle.ebc_decode.specs.Decoding.{length_begun, instruction_begun}
use Rattle.ebc_machine.specs.declared.place.Source.{Source}
use Rattle.ebc_machine.specs.declared.place.Source.TheVariants.{Held, At}
use Rattle.ebc_machine.specs.declared.regs.Regs.{Regs}
use Rattle.ebc_machine.specs.Operands.{register_in, is_odd}
use Rattle.ebc_machine.specs.Rows.{Outcome, Goes, Serves, Returns, Denies, Faults, Row, Takes, Asks, Puts, Comes, taken, going_on, performed}
use Rattle.ebc_machine.specs.Instructions.{row_of}
use Rattle.ebc_machine.specs.Stepping.{executed, fetched_whole, stepped}
use Rattle.ebc_machine.specs.Invocation.{Call, Final, after_instruction, after_service, turns, misplaced, invoked}
use Rattle.ebc_machine.specs.Laws.{mapped, Carries}

module _ {A B : Type 0} (h : A → B) where
  going_along : {T : Type 0} (x : Result T Denial × A) (k : T → A → Outcome × A) (l : T → B → Outcome × B)
      → ((v : T) (a : A) → l v (h a) ≡ mapped h (k v a))
      → going_on l (mapped h x) ≡ mapped h (going_on k x)
  going_along (Ok v, a) k l e = e v a
  going_along (Err denial, a) k l e = refl

  instruction_along : (regs : Regs) (x : Outcome × A) (k : Option Call → Regs → A → Final × A) (l : Option Call → Regs → B → Final × B)
      → ((call : Option Call) (regs : Regs) (a : A) → l call regs (h a) ≡ mapped h (k call regs a))
      → after_instruction l regs (mapped h x) ≡ mapped h (after_instruction k regs x)
  instruction_along regs (Goes after, a) k l e = e None after a
  instruction_along regs (Serves number next, a) k l e = e (Some (record { number = number; next = next })) regs a
  instruction_along regs (Returns status, a) k l e = refl
  instruction_along regs (Denies denial, a) k l e = refl
  instruction_along regs (Faults kind, a) k l e = refl

  service_along : (next : ℕ) (regs : Regs) (x : Served × A) (k : Option Call → Regs → A → Final × A) (l : Option Call → Regs → B → Final × B)
      → ((call : Option Call) (regs : Regs) (a : A) → l call regs (h a) ≡ mapped h (k call regs a))
      → after_service l next regs (mapped h x) ≡ mapped h (after_service k next regs x)
  service_along next regs (Status status, a) k l e = e None _ a
  service_along next regs (Stop denial, a) k l e = refl
  service_along next regs (NoMemory refused, a) k l e = refl

module _ {A B : Type 0} (h : A → B) (m : Meaning A) (n : Meaning B) (c : Carries h m n) where
  taken_along : (from : Source) (count : ℕ) (a : A) → taken n (h a) from count ≡ mapped h (taken m a from count)
  taken_along (Held value) count a = refl
  taken_along (At place) count a = c.reads a place count

  pub performed_along : (row : Row) (a : A) → performed n row (h a) ≡ mapped h (performed m row a)
  performed_along (Takes from count rest) a =
      ap (going_on (λ value left. performed n (rest value) left)) (taken_along from count a)
      ∙ going_along h (taken m a from count) (λ value left. performed m (rest value) left)
      (λ value left. performed n (rest value) left) (λ value left. performed_along (rest value) left)
  performed_along (Asks at rest) a = ap (λ there. performed n (rest there) (h a)) (c.targets a at) ∙ performed_along (rest (m.targets a at)) a
  performed_along (Puts at count value after) a =
      ap (going_on (λ _ left. (after, left))) (c.writes a at count value)
      ∙ going_along h (m.writes a at count value) (λ _ left. (after, left)) (λ _ left. (after, left)) (λ _ left. refl)
  performed_along (Comes to) a = refl

  executed_along : (regs : Regs) (there : Option (Ins × ℕ)) (a : A) → executed n regs there (h a) ≡ mapped h (executed m regs there a)
  executed_along regs None a = refl
  executed_along regs (Some (ins, size)) a = performed_along (row_of ins ((regs.ip + size) % 2 ^ 64) regs) a

  whole_along : (regs : Regs) (there : Option ℕ) (a : A) → fetched_whole n regs there (h a) ≡ mapped h (fetched_whole m regs there a)
  whole_along regs None a = refl
  whole_along regs (Some size) a =
      ap (going_on (λ bytes left. executed n regs (instruction_begun (take size bytes)) left)) (c.fetches a regs.ip size)
      ∙ going_along h (m.fetches a regs.ip size) (λ bytes left. executed m regs (instruction_begun (take size bytes)) left)
      (λ bytes left. executed n regs (instruction_begun (take size bytes)) left)
      (λ bytes left. executed_along regs (instruction_begun (take size bytes)) left)

  pub stepped_along : (regs : Regs) (a : A) → stepped n regs (h a) ≡ mapped h (stepped m regs a)
  unfolding stepped
  stepped_along regs a =
      ap (going_on (λ two left. fetched_whole n regs (length_begun (get_or two 0 0) (get_or two 1 0)) left)) (c.fetches a regs.ip 2)
      ∙ going_along h (m.fetches a regs.ip 2) (λ two left. fetched_whole m regs (length_begun (get_or two 0 0) (get_or two 1 0)) left)
      (λ two left. fetched_whole n regs (length_begun (get_or two 0 0) (get_or two 1 0)) left)
      (λ two left. whole_along regs (length_begun (get_or two 0 0) (get_or two 1 0)) left)

  pub turns_along : (fuel : ℕ) (call : Option Call) (regs : Regs) (a : A) → turns n fuel call regs (h a) ≡ mapped h (turns m fuel call regs a)
  unfolding turns
  turns_along zero call regs a = refl
  turns_along (suc fuel) None regs a =
      ap (after_instruction (turns n fuel) regs) (stepped_along regs a)
      ∙ instruction_along h regs (stepped m regs a) (turns m fuel) (turns n fuel) (turns_along fuel)
  turns_along (suc fuel) (Some call) regs a =
      ap (after_service (turns n fuel) call.next regs) (c.serves a call.number (register_in 0 regs))
      ∙ service_along h call.next regs (m.serves a call.number (register_in 0 regs)) (turns m fuel) (turns n fuel) (turns_along fuel)

  pub invoked_along : (fuel : ℕ) (regs : Regs) (a : A) → invoked n fuel regs (h a) ≡ mapped h (invoked m fuel regs a)
  unfolding invoked
  invoked_along fuel regs a = by_test (is_odd regs.ip)
    where
      by_test : (odd : Bool)
          → (if◌then◌else◌ {A = Final × B} odd (misplaced regs, h a) (turns n fuel None regs (h a)))
          ≡ mapped h (if◌then◌else◌ {A = Final × A} odd (misplaced regs, a) (turns m fuel None regs a))
      by_test true = refl
      by_test false = turns_along fuel None regs a
