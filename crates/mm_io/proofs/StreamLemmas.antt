-- Reads and writes one after the other, and their bytes joined.
use Rattle.std.proofs.Common.{◌≡◌, ℕ, ◌+◌, ◌≤◌, List, [], ◌++◌, length, take, drop, None, Some, refl, sym, ap, ◌∙◌, append_assoc, append-nil, arith, subst}
use Rattle.std.proofs.lemmas.List.{take-append-drop, drop-drop, take-take, drop-take, length-append, length-take-le}
use Rattle.std.specs.declared.option.Option.{Option}
use Rattle.mm_io.specs.Streams.{Gives, Appends, IsUsedUp, HasMoreThan, GivesAll}

pub gives-nothing : (a b : Option (List ℕ)) → b ≡ a → Gives a b []
gives-nothing a b e = let P : Option (List ℕ) → Type 0 = λ o. Gives a o [] in subst P (sym e) (same a)
  where
    same : (o : Option (List ℕ)) → Gives o o []
    same None = tt
    same (Some xs) = refl

pub gives-more : (a b c : Option (List ℕ)) (xs ys : List ℕ) → Gives a b xs → Gives b c ys → Gives a c (xs ++ ys)
gives-more None None None xs ys p q = tt
gives-more None None (Some w) xs ys p q = absurd q
gives-more None (Some v) c xs ys p q = absurd p
gives-more (Some u) None c xs ys p q = absurd p
gives-more (Some u) (Some v) None xs ys p q = absurd q
gives-more (Some u) (Some v) (Some w) xs ys p q = p ∙ ap (λ l. xs ++ l) q ∙ sym (append_assoc xs ys w)

pub appends-nothing : (a b : Option (List ℕ)) → b ≡ a → Appends a b []
appends-nothing a b e = let P : Option (List ℕ) → Type 0 = λ o. Appends a o [] in subst P (sym e) (same a)
  where
    same : (o : Option (List ℕ)) → Appends o o []
    same None = tt
    same (Some xs) = sym (append-nil xs)

pub appends-more : (a b c : Option (List ℕ)) (xs ys : List ℕ) → Appends a b xs → Appends b c ys → Appends a c (xs ++ ys)
appends-more None None None xs ys p q = tt
appends-more None None (Some w) xs ys p q = absurd q
appends-more None (Some v) c xs ys p q = absurd p
appends-more (Some u) None c xs ys p q = absurd p
appends-more (Some u) (Some v) None xs ys p q = absurd q
appends-more (Some u) (Some v) (Some w) xs ys p q = q ∙ ap (λ l. l ++ ys) p ∙ append_assoc u xs ys

-- what was taken from a place on, and the rest
pub drop-taken : (at n : ℕ) (xs : List ℕ) → drop at xs ≡ take n (drop at xs) ++ drop (at + n) xs
drop-taken at n xs = sym (take-append-drop n (drop at xs)) ∙ ap (λ l. take n (drop at xs) ++ l) (drop-drop n at xs)

-- a source that gave all that it had, at most so many, had no more than that
pub within-not_over : (a b : Option (List ℕ)) (limit : ℕ) (bytes : List ℕ) → GivesAll a b limit bytes → HasMoreThan limit a → ⊥
within-not_over None b limit bytes all more = more
within-not_over (Some xs) None limit bytes all more = all.gives
within-not_over (Some xs) (Some ys) limit bytes all more =
    let same : xs ≡ bytes = all.gives ∙ ap (λ l. bytes ++ l) all.used_up ∙ append-nil bytes in
    let len : length xs ≡ length bytes = ap length same in
    let within = all.within in
    omega arith

-- two pieces taken one behind the other
pub take-more : (at n : ℕ) (xs : List ℕ) → take (at + n) xs ≡ take at xs ++ take n (drop at xs)
take-more at n xs =
    let short : at ≤ at + n = omega arith in
    sym (take-append-drop at (take (at + n) xs)) ∙ ap (λ l. l ++ drop at (take (at + n) xs)) (take-take at (at + n) xs short) ∙ ap (λ l. take at xs ++ l) (drop-take at n xs)

pub length-more : (n : ℕ) (xs buf : List ℕ) → n ≤ length buf → length (xs ++ take n buf) ≡ length xs + n
length-more n xs buf fits = length-append xs (take n buf) ∙ ap (λ k. length xs + k) (length-take-le n buf fits)

-- a read of nothing at the end: what came before it was all
pub all-given : (a b c : Option (List ℕ)) (limit n : ℕ) (bytes buf : List ℕ) → Gives a b bytes → Gives b c (take n buf) → n ≡ 0 → IsUsedUp b → length bytes ≤ limit → GivesAll a c limit bytes
all-given a b c limit n bytes buf gave gives none end within =
    let nothing : take n buf ≡ [] = ap (λ k. take k buf) none in
    let last : Gives b c [] = let P : List ℕ → Type 0 = λ l. Gives b c l in subst P nothing gives in
    let joined : Gives a c bytes = let P : List ℕ → Type 0 = λ l. Gives a c l in subst P (append-nil bytes) (gives-more a b c bytes [] gave last) in
    record { gives = joined; used_up = still b c last end; within = within }
  where
    still : (b c : Option (List ℕ)) → Gives b c [] → IsUsedUp b → IsUsedUp c
    still None None p e = tt
    still None (Some w) p e = absurd p
    still (Some v) None p e = tt
    still (Some v) (Some w) p e = sym p ∙ e
