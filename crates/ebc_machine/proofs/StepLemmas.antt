-- An instruction by its fetches, what they begin, and its row.
use Rattle.std.proofs.Common.{◌≡◌, ℕ, ◌+◌, ◌%◌, ◌^◌, ◌≤◌, List, take, get_or, Option, Some, None, Result, Ok, Err, refl, sym, ap, ◌∙◌, subst, arith}
use Rattle.mm_base.specs.Bus.{Meaning, Answers}
use Rattle.mm_base.specs.declared.access.Denial.{Denial}
use Rattle.mm_base.specs.declared.invocation.FaultKind.TheVariants.{Encoding}
use Rattle.ebc_decode.specs.declared.ins.Ins.{Ins}
use Rattle.ebc_decode.specs.Reading.{BeginsInstruction}
use Rattle.ebc_decode.specs.Decoding.{length_begun, instruction_begun}
use Rattle.ebc_decode.proofs.WordLemmas.{two_to_eighteen}
use Rattle.ebc_machine.specs.declared.regs.Regs.{Regs}
use Rattle.ebc_machine.specs.declared.turn.Progress.{Progress}
use Rattle.ebc_machine.specs.declared.turn.Progress.TheVariants as progress
use Rattle.ebc_machine.specs.Rows.{Outcome, Denies, Faults, going_on, performed}
use Rattle.ebc_machine.specs.Instructions.{row_of}
use Rattle.ebc_machine.specs.Told.{Tells}
use Rattle.ebc_machine.specs.Stepping.{executed, fetched_whole, stepped}

pub few_bytes : (first second n : ℕ) → BeginsInstruction first second n → (1 ≤ n) × (n ≤ 18)
few_bytes first second n begins =
    let bounds = two_to_eighteen begins.ins begins.lawful in
    let size = begins.size in
    (omega arith, omega arith)

module _ {T B : Type 0} (rest : T → B → Outcome × B) (left : B) where
  on_ok : (x : Result T Denial × B) (answer : T) → Answers x (Ok answer) left → going_on rest x ≡ rest answer left
  on_ok (Ok other, bus) answer a =
      let e = a.0 in
      let same : answer ≡ other = cc in
      λ i. rest (sym same i) (sym a.1 i)
  on_ok (Err denial, bus) answer a = let e = a.0 in cc

  on_err : (x : Result T Denial × B) (denial : Denial) → Answers x (Err denial) left → going_on rest x ≡ (Denies denial, left)
  on_err (Ok other, bus) denial a = let e = a.0 in cc
  on_err (Err other, bus) denial a =
      let e = a.0 in
      let same : denial ≡ other = cc in
      λ i. (Denies (sym same i), sym a.1 i)

-- what ended at once leaves the registers
ended_denied : {B : Type 0} (x : Outcome × B) (regs : Regs) (denial : Denial) (left : B)
    → x ≡ (Denies denial, left)
    → Tells x regs (progress.Denied denial) regs left
ended_denied x regs denial left e =
    subst (λ (told : Outcome × _). Tells told regs (progress.Denied denial) regs left) (sym e)
    (record { answer_is = refl; regs_are = refl; bus_is = refl; numbered = tt })

ended_encoding : {B : Type 0} (x : Outcome × B) (regs : Regs) (left : B)
    → x ≡ (Faults Encoding, left)
    → Tells x regs (progress.Fault Encoding) regs left
ended_encoding x regs left e =
    subst (λ (told : Outcome × _). Tells told regs (progress.Fault Encoding) regs left) (sym e)
    (record { answer_is = refl; regs_are = refl; bus_is = refl; numbered = tt })

module _ {B : Type 0} (m : Meaning B) (regs : Regs) (bus : B) where
  pub denied_two : (denial : Denial) (left : B)
      → Answers (m.fetches bus regs.ip 2) (Err denial) left
      → Tells (stepped m regs bus) regs (progress.Denied denial) regs left
  unfolding stepped
  denied_two denial left a =
      ended_denied (stepped m regs bus) regs denial left
      (on_err (λ two left. fetched_whole m regs (length_begun (get_or two 0 0) (get_or two 1 0)) left) left (m.fetches bus regs.ip 2) denial a)

  module _ (two : List ℕ) (left : B) (a : Answers (m.fetches bus regs.ip 2) (Ok two) left) where
    after_two : (n : Option ℕ)
        → length_begun (get_or two 0 0) (get_or two 1 0) ≡ n
        → stepped m regs bus ≡ fetched_whole m regs n left
    unfolding stepped
    after_two n e =
        on_ok (λ two left. fetched_whole m regs (length_begun (get_or two 0 0) (get_or two 1 0)) left) left (m.fetches bus regs.ip 2) two a
        ∙ ap (λ (n : Option ℕ). fetched_whole m regs n left) e

    pub no_length : length_begun (get_or two 0 0) (get_or two 1 0) ≡ None
        → Tells (stepped m regs bus) regs (progress.Fault Encoding) regs left
    no_length e = ended_encoding (stepped m regs bus) regs left (after_two None e)

    module _ (n : ℕ) (e : length_begun (get_or two 0 0) (get_or two 1 0) ≡ Some n) where
      pub denied_whole : (denial : Denial) (last : B)
          → Answers (m.fetches left regs.ip n) (Err denial) last
          → Tells (stepped m regs bus) regs (progress.Denied denial) regs last
      denied_whole denial last b =
          ended_denied (stepped m regs bus) regs denial last
          (after_two (Some n) e
          ∙ on_err (λ bytes left. executed m regs (instruction_begun (take n bytes)) left) last (m.fetches left regs.ip n) denial b)

      module _ (bytes : List ℕ) (last : B) (b : Answers (m.fetches left regs.ip n) (Ok bytes) last) where
        after_whole : (there : Option (Ins × ℕ))
            → instruction_begun (take n bytes) ≡ there
            → stepped m regs bus ≡ executed m regs there last
        after_whole there f =
            after_two (Some n) e
            ∙ on_ok (λ bytes left. executed m regs (instruction_begun (take n bytes)) left) last (m.fetches left regs.ip n) bytes b
            ∙ ap (λ (there : Option (Ins × ℕ)). executed m regs there last) f

        pub no_instruction : instruction_begun (take n bytes) ≡ None
            → Tells (stepped m regs bus) regs (progress.Fault Encoding) regs last
        no_instruction f = ended_encoding (stepped m regs bus) regs last (after_whole None f)

        pub does_row : (ins : Ins) (size : ℕ) (answer : Progress) (after : Regs) (end : B)
            → instruction_begun (take n bytes) ≡ Some (ins, size)
            → Tells (performed m (row_of ins ((regs.ip + size) % 2 ^ 64) regs) last) regs answer after end
            → Tells (stepped m regs bus) regs answer after end
        does_row ins size answer after end f told =
            subst (λ (x : Outcome × B). Tells x regs answer after end) (sym (after_whole (Some (ins, size)) f)) told
