-- The frame, word by word.
use Rattle.std.proofs.Common.{◌≡◌, ℕ, suc, ◌+◌, ◌-◌, ◌*◌, ◌<◌, ◌≤◌, List, [], ◌∷◌, length, drop, get_or, Result, Ok, Err, refl, sym, ap, ◌∙◌, subst, arith}
use Rattle.std.proofs.lemmas.List.{drop_more, drop_all}
use Rattle.mm_base.specs.Bus.{Meaning, Answers}
use Rattle.mm_base.specs.declared.access.Denial.{Denial}
use Rattle.ebc_machine.specs.declared.regs.Regs.{Regs}
use Rattle.ebc_machine.specs.Invocation.{written_on, written, frame, opening, opened, entered}

on_ok : {B : Type 0} (more : B → Result (Unit {0}) Denial × B) (x : Result (Unit {0}) Denial × B) (left : B)
    → Answers x (Ok tt) left
    → written_on more x ≡ more left
on_ok more (Ok done, bus) left a = ap more (sym a.1)
on_ok more (Err denial, bus) left a = let e = a.0 in cc

on_err : {B : Type 0} (more : B → Result (Unit {0}) Denial × B) (x : Result (Unit {0}) Denial × B) (denial : Denial) (left : B)
    → Answers x (Err denial) left
    → written_on more x ≡ (Err denial, left)
on_err more (Ok done, bus) denial left a = let e = a.0 in cc
on_err more (Err other, bus) denial left a =
    let e = a.0 in
    let same : denial ≡ other = cc in
    λ i. (Err (sym same i), sym a.1 i)

module _ {B : Type 0} (m : Meaning B) (at : ℕ) (words : List ℕ) (i : ℕ) (here : i < length words) (bus left : B) where
  front : written m (at + 8 * i) (drop i words) bus
      ≡ written_on (written m (at + 8 * i + 8) (drop (i + 1) words)) (m.writes bus (at + 8 * i) 8 (get_or words i 0))
  front = ap (λ (rest : List ℕ). written m (at + 8 * i) rest bus) (drop_more words i 0 here)

  pub one_word : Answers (m.writes bus (at + 8 * i) 8 (get_or words i 0)) (Ok tt) left
      → written m (at + 8 * (i + 1)) (drop (i + 1) words) left ≡ written m (at + 8 * i) (drop i words) bus
  one_word a =
      let next : at + 8 * i + 8 ≡ at + 8 * (i + 1) = omega arith in
      sym (front ∙ on_ok (written m (at + 8 * i + 8) (drop (i + 1) words)) (m.writes bus (at + 8 * i) 8 (get_or words i 0)) left a
      ∙ ap (λ (k : ℕ). written m k (drop (i + 1) words) left) next)

  pub denied_word : (denial : Denial)
      → Answers (m.writes bus (at + 8 * i) 8 (get_or words i 0)) (Err denial) left
      → written m (at + 8 * i) (drop i words) bus ≡ (Err denial, left)
  denied_word denial a =
      front ∙ on_err (written m (at + 8 * i + 8) (drop (i + 1) words)) (m.writes bus (at + 8 * i) 8 (get_or words i 0)) denial left a

pub all_words : {B : Type 0} (m : Meaning B) (at : ℕ) (words : List ℕ) (bus : B)
    → written m (at + 8 * length words) (drop (length words) words) bus ≡ (Ok tt, bus)
all_words m at words bus = ap (λ (rest : List ℕ). written m (at + 8 * length words) rest bus) (nothing words)
  where
    nothing : (words : List ℕ) → drop (length words) words ≡ []
    nothing words = drop_all (length words) words (omega arith)

-- a list of four, item by item
pub four : (xs : List ℕ) → length xs ≡ 4 → xs ≡ get_or xs 0 0 ∷ get_or xs 1 0 ∷ get_or xs 2 0 ∷ get_or xs 3 0 ∷ []
four [] e = cc
four (a ∷ []) e = cc
four (a ∷ b ∷ []) e = cc
four (a ∷ b ∷ c ∷ []) e = cc
four (a ∷ b ∷ c ∷ d ∷ []) e = refl
four (a ∷ b ∷ c ∷ d ∷ f ∷ rest) e = absurd (many (length rest) e)
  where
    many : (n : ℕ) → suc (suc (suc (suc (suc n)))) ≡ 4 → ⊥
    many n e = omega arith

module _ {B : Type 0} (m : Meaning B) (stack address : ℕ) (arguments : List ℕ) (bus left : B) where
  pub entered_ok : (words : List ℕ) (regs : Regs)
      → 48 ≤ stack
      → words ≡ frame arguments
      → regs ≡ opening (stack - 48 + 48) address
      → Answers (written m (stack - 48) words bus) (Ok tt) left
      → Answers (entered m stack address arguments bus) (Ok regs) left
  unfolding entered
  entered_ok words regs enough all is a =
      let whole : stack - 48 + 48 ≡ stack = omega arith in
      let own = is ∙ ap (λ (n : ℕ). opening n address) whole in
      by_answer (written m (stack - 48) (frame arguments) bus)
      (subst (λ (words : List ℕ). Answers (written m (stack - 48) words bus) (Ok tt) left) all a) own
    where
      by_answer : (x : Result (Unit {0}) Denial × B)
          → Answers x (Ok tt) left
          → regs ≡ opening stack address
          → Answers (opened (opening stack address) x) (Ok regs) left
      by_answer (Ok done, bus) a own = (ap (λ (r : Regs). Ok r) own, a.1)
      by_answer (Err denial, bus) a own = let e = a.0 in cc

  pub entered_err : (words : List ℕ) (denial : Denial)
      → words ≡ frame arguments
      → Answers (written m (stack - 48) words bus) (Err denial) left
      → Answers (entered m stack address arguments bus) (Err denial) left
  unfolding entered
  entered_err words denial all a =
      by_answer (written m (stack - 48) (frame arguments) bus)
      (subst (λ (words : List ℕ). Answers (written m (stack - 48) words bus) (Err denial) left) all a)
    where
      by_answer : (x : Result (Unit {0}) Denial × B)
          → Answers x (Err denial) left
          → Answers (opened (opening stack address) x) (Err denial) left
      by_answer (Ok done, bus) a = let e = a.0 in cc
      by_answer (Err other, bus) a =
          let e = a.0 in
          let same : denial ≡ other = cc in
          (ap (λ (d : Denial). Err d) same, a.1)
