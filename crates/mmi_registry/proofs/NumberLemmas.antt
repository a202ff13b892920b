-- Numbers rise in order of registration.
use Rattle.std.proofs.Common.{Bool, List, Some, [], ap, arith, cond, false, length, not, refl, subst, suc, sym, true, zero, ℕ, ◌++◌, ◌+◌}
use Rattle.std.proofs.Common.{◌<◌, ◌==◌, ◌∙◌, ◌∷◌, ◌≡◌}
use Rattle.std.specs.List.{filter, All, AllPairs, slice_index_or}
use Rattle.std.proofs.lemmas.Bool.{eqb-true, ne_eqb}
use Rattle.std.proofs.lemmas.Bool.Decides.{nat_tests}
use Rattle.std.proofs.lemmas.List.Elements.{All-filter, All-push, All-head, All-tail}
use Rattle.std.proofs.lemmas.List.Filters.{length-filter_both}
use Rattle.std.proofs.lemmas.List.Kept.{AllPairs-filter}
use Rattle.std.proofs.lemmas.List.Quantifiers.{all_pairs_push}
use Rattle.mm_base.specs.declared.handler.Handler.{Handler}
use Rattle.mmi_registry.specs.Handlers.{is_of, handler_at, without_number, without_image}
use Rattle.mmi_registry.specs.Registry.{IsNumbered}
use Rattle.mmi_registry.proofs.FilterLemmas.{length-filter_split}

abbrev AreBefore : Handler → Handler → Type 0
AreBefore earlier later = earlier.number < later.number

-- numbers rise
abbrev pub Rising : List Handler → Type 0
Rising handlers = AllPairs AreBefore handlers

-- all numbers are above this one
abbrev Above : ℕ → List Handler → Type 0
Above number handlers = All (λ handler. number < handler.number) handlers

module _ (handlers : List Handler) (next : ℕ) (is : IsNumbered handlers next) where
  pub IsNumbered-push : (handler : Handler) → handler.number ≡ next → IsNumbered (handlers ++ handler ∷ []) (next + 1)
  IsNumbered-push handler same = record {
    rising = all_pairs_push AreBefore handlers handler is.rising (λ k d in'. omega (arith, is.below k d in'));
    below = All-push (λ h. h.number < next + 1) handlers handler (λ k d in'. omega (arith, is.below k d in')) (omega arith);
  }

  pub IsNumbered-filter : (p : Handler → Bool) → IsNumbered (filter p handlers) next
  IsNumbered-filter p = record {
    rising = AllPairs-filter AreBefore p handlers is.rising;
    below = All-filter p (λ handler. handler.number < next) handlers is.below;
  }

module _ (first : Handler) (handlers : List Handler) (rising : Rising (first ∷ handlers)) where
  -- what comes after the first has a higher number
  above_first : Above first.number handlers
  above_first = λ k d in'. rising zero (suc k) d (omega arith) (omega arith)

  rising_rest : Rising handlers
  rising_rest = λ i j d less in'. rising (suc i) (suc j) d (omega arith) (omega arith)

-- handlers above a number stay where it is removed
without_number-above : (number : ℕ) (handlers : List Handler) → Above number handlers → without_number number handlers ≡ handlers
without_number-above number [] above = refl
without_number-above number (first ∷ handlers) above =
    let Over : Handler → Type 0 = λ handler. number < handler.number in
    let apart : (first.number == number) ≡ false =
    ne_eqb first.number number (λ same. absurd (omega (arith, All-head Over first handlers above))) in
    ap (λ b. cond (not b) (first ∷ without_number number handlers) (without_number number handlers)) apart
    ∙ ap (λ rest. first ∷ rest) (without_number-above number handlers (All-tail Over first handlers above))

-- the handlers of this number
abbrev of_number : ℕ → List Handler → List Handler
of_number number handlers = filter (λ handler. handler.number == number) handlers

-- no handler above a number has it
none_equal : (number : ℕ) (handlers : List Handler) → Above number handlers → length (of_number number handlers) ≡ 0
none_equal number handlers above =
    let none : length (of_number number handlers) ≡ length (of_number number handlers) + length (of_number number handlers) =
    length-filter_split _ _ _ handlers (λ k d in'. apart number (slice_index_or handlers k d).number (above k d in')) in
    omega arith
  where
    apart : (a b : ℕ) → a < b → cond (b == a) 1 0 ≡ cond (b == a) 1 0 + cond (b == a) 1 0
    apart a b h = grind (arith, nat_tests)

module _ (number : ℕ) (handler : Handler) where
  one_equal : (handlers : List Handler) → Rising handlers → handler_at number handlers ≡ Some handler
      → length (of_number number handlers) ≡ 1
  one_equal [] rising found = cc
  one_equal (first ∷ handlers) rising found =
      elim (first.number == number) as (λ b. (first.number == number) ≡ b
      → cond b (Some first) (handler_at number handlers) ≡ Some handler
      → length (cond b (first ∷ of_number number handlers) (of_number number handlers)) ≡ 1) [
        | true ↦ λ same _.
            let above = above_first first handlers rising in
            omega (arith, none_equal number handlers (λ k d in'. omega (arith, eqb-true first.number number same, above k d in')))
        | false ↦ λ _ later. one_equal handlers (rising_rest first handlers rising) later
      ] refl found

  -- removing a number that is there removes one handler
  pub without_number-alone : (handlers : List Handler) (next : ℕ) → IsNumbered handlers next
      → handler_at number handlers ≡ Some handler → length handlers ≡ length (without_number number handlers) + 1
  without_number-alone handlers next is found =
      let both : length (of_number number handlers) + length (without_number number handlers) ≡ length handlers =
      length-filter_both (λ handler. handler.number == number) (λ handler. not (handler.number == number)) (λ _. refl) handlers in
      omega (arith, one_equal handlers is.rising found)

-- Where an image's handler is removed by its number, all that are not the image's stay.
module _ (image number : ℕ) (handler : Handler) (mine : is_of image handler ≡ true) where
  own_first : (first : Handler) → Some first ≡ Some handler → is_of image first ≡ true
  own_first first here = let same : first ≡ handler = cc in ap (is_of image) same ∙ mine

  pub without_image-without_number : (handlers : List Handler) → Rising handlers → handler_at number handlers ≡ Some handler
      → without_image image (without_number number handlers) ≡ without_image image handlers
  without_image-without_number [] rising found = refl
  without_image-without_number (first ∷ handlers) rising found =
      elim (first.number == number) as (λ b. (first.number == number) ≡ b
      → cond b (Some first) (handler_at number handlers) ≡ Some handler
      → without_image image (cond (not b) (first ∷ without_number number handlers) (without_number number handlers))
      ≡ without_image image (first ∷ handlers)) [
        | true ↦ λ same here.
            let Over : ℕ → Type 0 = λ n. Above n handlers in
            let above : Above number handlers = subst Over (eqb-true first.number number same) (above_first first handlers rising) in
            ap (without_image image) (without_number-above number handlers above)
            ∙ sym (ap (λ b. cond (not b) (first ∷ without_image image handlers) (without_image image handlers)) (own_first first here))
        | false ↦ λ _ later.
            ap (λ rest. cond (not (is_of image first)) (first ∷ rest) rest)
            (without_image-without_number handlers (rising_rest first handlers rising) later)
      ] refl found
