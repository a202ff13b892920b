-- All of a part of the flags.
use Rattle.std.proofs.Common.{◌≡◌, ◌↔◌, ℕ, ◌+◌, ◌-◌, ◌<◌, ◌≤◌, Bool, true, false, List, length, take, drop, get_or, IsTrue, MatchBool, refl, ap, ◌∙◌, sym, arith}
use Rattle.std.specs.List.{AllWithin, HoldsAt}
use Rattle.std.proofs.lemmas.List.{length-take, length-drop, get_or-take, get_or-drop}
use Rattle.std.proofs.lemmas.Bool.{false≢true}
use Rattle.page_runs.specs.Runs.{is_taken, AreTaken}

module _ (taken : List Bool) (start pages count : ℕ) (inside : start + pages ≤ length taken) (all : count ≡ pages) where
  abbrev pub part : List Bool
  part = take count (drop start taken)

  length-part : length part ≡ pages
  length-part = omega (arith, length-take count (drop start taken), length-drop start taken)

  at_part : (k : ℕ) → k < pages → get_or part k false ≡ is_taken taken (start + k)
  at_part k there = get_or-take count (drop start taken) k false (omega arith) ∙ get_or-drop start taken k false

  page_of_part : (page : ℕ) → start ≤ page → page < start + pages → get_or part (page - start) false ≡ is_taken taken page
  page_of_part page from to =
      let same : start + (page - start) ≡ page = omega arith in
      at_part (page - start) (omega arith) ∙ ap (is_taken taken) same

  -- where each flag of the part is set, the pages are all taken, and where one isn't, they aren't
  pub all_of_part : (r : Bool)
      → MatchBool r (AllWithin (λ flag. flag ≡ true) part 0 (length part)) ((k : ℕ) × (k < length part) × HoldsAt (λ flag. flag ≡ false) part k)
      → IsTrue r ↔ AreTaken taken start pages
  all_of_part true set = (
    λ _. record {
      inside = inside;
      each = λ page from to. sym (page_of_part page from to) ∙ set (page - start) false (omega arith) (omega (arith, length-part));
    },
    λ _. refl,
  )
  all_of_part false clear = (
    λ e. absurd (false≢true e),
    λ those.
        let k : ℕ = clear.0 in
        let few : k < pages = omega (arith, clear.1, length-part) in
        let is : is_taken taken (start + k) ≡ true = those.each (start + k) (omega arith) (omega arith) in
        let not : is_taken taken (start + k) ≡ false = sym (at_part k few) ∙ clear.2 false in
        absurd (false≢true (sym not ∙ is)),
  )
