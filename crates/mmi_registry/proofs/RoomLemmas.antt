-- The room suffices: whatever is registered, there are at most 321 handlers.
use Rattle.std.proofs.Common.{◌≡◌, ◌≤◌, ◌<◌, ℕ, zero, suc, ◌+◌, ◌*◌, ◌==◌, Bool, true, false, cond, nat_lt, nat_le, List, [], ◌∷◌, ◌++◌}
use Rattle.std.proofs.Common.{length, refl, ap, subst, arith, inl, inr}
use Rattle.std.specs.Bool.{IsTrue}
use Rattle.std.specs.List.{filter, slice_index_or}
use Rattle.std.proofs.lemmas.Bool.{cases_eq, ne_eqb, leb-false}
use Rattle.std.proofs.lemmas.Bool.Decides.{nat_tests}
use Rattle.std.proofs.lemmas.List.Elements.{All-filter, All-push}
use Rattle.mm_base.specs.declared.handler.Handler.{Handler}
use Rattle.mm_base.specs.declared.handler.HandlerBody.{HandlerBody}
use Rattle.mm_base.specs.declared.handler.HandlerBody.TheVariants.{Version, Stub, Code}
use Rattle.mmi_registry.specs.Handlers.{is_code_of, is_of, is_built_in, owned_by, built_ins}
use Rattle.mmi_registry.specs.Registry.{IsAdmissible, IsWithinRoom, is_quota_used}
use Rattle.mmi_registry.proofs.FilterLemmas.{cond-le-one, length-filter_filter, length-filter_split, length-filter_push}

-- code of an image below n
is_below : ℕ → HandlerBody → Bool
is_below n Version = false
is_below n (Stub status) = false
is_below n (Code image address) = nat_lt image n

abbrev below : ℕ → List Handler → List Handler
below n handlers = filter (λ handler. is_below n handler.body) handlers

is_below-zero : (body : HandlerBody) → cond (is_below zero body) 1 0 ≡ cond (is_below zero body) 1 0 + cond (is_below zero body) 1 0
unfolding is_below
is_below-zero Version = refl
is_below-zero (Stub status) = refl
is_below-zero (Code image address) = grind (arith, nat_tests)

is_below-suc : (n : ℕ) (body : HandlerBody)
    → cond (is_below (suc n) body) 1 0 ≡ cond (is_below n body) 1 0 + cond (is_code_of n body) 1 0
unfolding is_below
is_below-suc n Version = refl
is_below-suc n (Stub status) = refl
is_below-suc n (Code image address) = grind (arith, nat_tests)

-- a handler is built in or of an image
is_either : (body : HandlerBody) → IsAdmissible body → 1 ≡ cond (is_built_in body) 1 0 + cond (is_below 32 body) 1 0
unfolding is_below
is_either Version h = refl
is_either (Stub status) h = refl
is_either (Code image address) h = grind (arith, nat_tests)

filter-all : {X : Type 0} (xs : List X) → filter (λ _. true) xs ≡ xs
filter-all [] = refl
filter-all (x ∷ xs) = ap (λ ys. x ∷ ys) (filter-all xs)

module _ (handlers : List Handler) where
  -- the images below n have at most 8 * n handlers
  length-below : (n : ℕ) → ((image : ℕ) → length (owned_by image handlers) ≤ 8) → length (below n handlers) ≤ 8 * n
  length-below zero each =
      let none : length (below zero handlers) ≡ length (below zero handlers) + length (below zero handlers) =
      length-filter_split _ _ _ handlers (λ k d in'. is_below-zero (slice_index_or handlers k d).body) in
      omega arith
  length-below (suc n) each =
      let split : length (below (suc n) handlers) ≡ length (below n handlers) + length (owned_by n handlers) =
      length-filter_split _ _ _ handlers (λ k d in'. is_below-suc n (slice_index_or handlers k d).body) in
      let fewer : length (below n handlers) ≤ 8 * n = length-below n each in
      let last : length (owned_by n handlers) ≤ 8 = each n in
      omega arith

  pub length-room : IsWithinRoom handlers → length handlers ≤ 321
  length-room within =
      let split : length (filter (λ _. true) handlers) ≡ length (built_ins handlers) + length (below 32 handlers) =
      length-filter_split _ _ (λ _. true) handlers (λ k d in'. is_either (slice_index_or handlers k d).body (within.admissible k d in')) in
      let fewer : length (below 32 handlers) ≤ 8 * 32 = length-below 32 within.of_image in
      let some : length (built_ins handlers) ≤ 65 = within.built_in in
      omega (arith, ap length (filter-all handlers))

  -- one more handler keeps within each image's room
  each-push : (body : HandlerBody) → ((image : ℕ) → length (owned_by image handlers) ≤ 8) → is_quota_used body handlers ≡ false
      → (image : ℕ) → length (owned_by image handlers) + cond (is_code_of image body) 1 0 ≤ 8
  each-push Version each unused image = omega (arith, each image)
  each-push (Stub status) each unused image = omega (arith, each image)
  each-push (Code owner address) each unused image =
      elim (cases_eq owner image) [
        | inl same ↦
            let P : ℕ → Type 0 = λ i. nat_le 8 (length (owned_by i handlers)) ≡ false in
            omega (arith, leb-false 8 (length (owned_by image handlers)) (subst P same unused), cond-le-one (owner == image))
        | inr other ↦ omega (arith, each image, ap {B = ℕ} (λ b. cond b 1 0) (ne_eqb owner image other))
      ]

built_in-push : (b : Bool) (n : ℕ) → n ≤ 65 → (IsTrue b → n < 65) → n + cond b 1 0 ≤ 65
built_in-push true n h less = omega (arith, less refl)
built_in-push false n h less = omega arith

module _ (handlers : List Handler) (within : IsWithinRoom handlers) where
  pub IsWithinRoom-push : (handler : Handler) → IsAdmissible handler.body → is_quota_used handler.body handlers ≡ false
      → (IsTrue (is_built_in handler.body) → length (built_ins handlers) < 65) → IsWithinRoom (handlers ++ handler ∷ [])
  IsWithinRoom-push handler image unused fewer = record {
    admissible = All-push (λ h. IsAdmissible h.body) handlers handler within.admissible image;
    of_image = λ i. rw length-filter_push (each-push handlers handler.body within.of_image unused i);
    built_in = rw length-filter_push (built_in-push (is_built_in handler.body) _ within.built_in fewer);
  }

  pub IsWithinRoom-filter : (p : Handler → Bool) → IsWithinRoom (filter p handlers)
  IsWithinRoom-filter p = record {
    admissible = All-filter p (λ h. IsAdmissible h.body) handlers within.admissible;
    of_image = λ i. omega (arith, length-filter_filter p (is_of i) handlers, within.of_image i);
    built_in = omega (arith, length-filter_filter p (λ handler. is_built_in handler.body) handlers, within.built_in);
  }
