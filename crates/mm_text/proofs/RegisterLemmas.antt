-- Registers of a ring line, judged with one flag for each register.
use Rattle.std.proofs.Common.{◌≡◌, ℕ, zero, suc, ◌<◌, Bool, true, false, not, ◌&&◌, ◌==◌, nat_lt, inl, inr, List, [], ◌∷◌, length, get_or, set, replicate, refl, ap, sym, subst, ◌∙◌}
use Rattle.std.proofs.lemmas.Bool.{cases_eq, eq-eqb, ne_eqb, ltb-true}
use Rattle.std.proofs.lemmas.List.{length-set, get_or-set_same, get_or-set_other, length-replicate}
use Rattle.std.specs.List.{list_all}
use Rattle.mm_text.specs.ScriptText.{are_distinct}
use Rattle.mm_text.specs.ScriptReaderInside.{are_registers}
use Rattle.mm_text.specs.declared.line.Named.{Named}

-- whether a register is flagged
abbrev pub flag : List Bool → ℕ → Bool
flag flags register = get_or flags register false

-- whether these registers are there, not flagged, and each named once
abbrev pub are_fresh : List Bool → List Named → Bool
are_fresh flags [] = true
are_fresh flags (named ∷ others) = nat_lt named.register 19 && (not (flag flags named.register) && are_fresh (set flags named.register true) others)

-- no register of these is this one, and none is flagged
abbrev others_than : ℕ → List Named → Bool
others_than register others = list_all (λ other. not (other.register == register)) others

abbrev unflagged : List Bool → List Named → Bool
unflagged flags others = list_all (λ other. not (flag flags other.register)) others

flag-set : (flags : List Bool) (register other : ℕ) → register < length flags
    → not (flag (set flags register true) other) ≡ (not (other == register) && not (flag flags other))
flag-set flags register other within =
    elim (cases_eq other register) as (λ _. not (flag (set flags register true) other) ≡ (not (other == register) && not (flag flags other))) [
      | inl e ↦ flag_same flags register other within e
      | inr e ↦ flag_other flags register other e
    ]
  where
    flag_same : (flags : List Bool) (register other : ℕ) → register < length flags → other ≡ register
        → not (flag (set flags register true) other) ≡ (not (other == register) && not (flag flags other))
    flag_same flags register other within e =
        ap (λ k. not (flag (set flags register true) k)) e ∙ ap not (get_or-set_same flags register true false within)
        ∙ sym (ap (λ t. not t && not (flag flags other)) (eq-eqb other register e))

    flag_other : (flags : List Bool) (register other : ℕ) → (other ≡ register → ⊥)
        → not (flag (set flags register true) other) ≡ (not (other == register) && not (flag flags other))
    flag_other flags register other e =
        ap not (get_or-set_other flags register other true false e) ∙ sym (ap (λ t. not t && not (flag flags other)) (ne_eqb other register e))

and_swap : (a b c d : Bool) → ((a && b) && (c && d)) ≡ ((a && c) && (b && d))
and_swap true true c d = refl
and_swap true false true d = refl
and_swap true false false d = refl
and_swap false b c d = refl

unflagged-set : (flags : List Bool) (register : ℕ) → register < length flags → (others : List Named)
    → unflagged (set flags register true) others ≡ (others_than register others && unflagged flags others)
unflagged-set flags register within [] = refl
unflagged-set flags register within (named ∷ others) =
    ap (λ t. t && unflagged (set flags register true) others) (flag-set flags register named.register within)
    ∙ ap (λ t. (not (named.register == register) && not (flag flags named.register)) && t) (unflagged-set flags register within others)
    ∙ and_swap (not (named.register == register)) (not (flag flags named.register)) (others_than register others) (unflagged flags others)

and_five : (free there distinct other rest : Bool) → (free && ((there && distinct) && (other && rest))) ≡ ((there && (other && distinct)) && (free && rest))
and_five true true true other rest = by_other other rest
  where
    by_other : (other rest : Bool) → (other && rest) ≡ ((other && true) && rest)
    by_other true rest = refl
    by_other false rest = refl
and_five true true false other rest = by_other other rest
  where
    by_other : (other rest : Bool) → false ≡ ((other && false) && rest)
    by_other true rest = refl
    by_other false rest = refl
and_five true false distinct other rest = refl
and_five false there distinct other rest = by_both (there && (other && distinct))
  where
    by_both : (t : Bool) → false ≡ (t && false)
    by_both true = refl
    by_both false = refl

fresh_by : (there free all distinct other rest fresh : Bool) → (there ≡ true → fresh ≡ ((all && distinct) && (other && rest)))
    → (there && (free && fresh)) ≡ (((there && all) && (other && distinct)) && (free && rest))
fresh_by true free all distinct other rest fresh e = ap (λ t. free && t) (e refl) ∙ and_five free all distinct other rest
fresh_by false free all distinct other rest fresh e = refl

-- registers are fresh if they are there, distinct and not flagged
fresh-is : (flags : List Bool) (registers : List Named) → length flags ≡ 19 → are_fresh flags registers ≡ (are_registers registers && unflagged flags registers)
fresh-is flags [] size = refl
fresh-is flags (named ∷ others) size =
    let more : length (set flags named.register true) ≡ 19 = length-set flags named.register true ∙ size in
    fresh_by (nat_lt named.register 19) (not (flag flags named.register)) (list_all (λ x. nat_lt x.register 19) others) (are_distinct others)
    (others_than named.register others) (unflagged flags others) (are_fresh (set flags named.register true) others)
    (λ there.
    let within : named.register < length flags = subst (λ n. named.register < n) (sym size) (ltb-true named.register 19 there) in
    fresh-is (set flags named.register true) others more
    ∙ ap (λ t. are_registers others && t) (unflagged-set flags named.register within others))

get_or-unset : (n k : ℕ) → get_or (replicate n false) k false ≡ false
get_or-unset zero k = refl
get_or-unset (suc n) zero = refl
get_or-unset (suc n) (suc k) = get_or-unset n k

none_flagged : (register : ℕ) → flag (replicate 19 false) register ≡ false
none_flagged register = get_or-unset 19 register

unflagged-none : (registers : List Named) → unflagged (replicate 19 false) registers ≡ true
unflagged-none [] = refl
unflagged-none (named ∷ others) = ap (λ t. not t && unflagged (replicate 19 false) others) (none_flagged named.register) ∙ unflagged-none others

and_true : (t : Bool) → (t && true) ≡ t
and_true true = refl
and_true false = refl

-- with no flag set, registers are fresh if they are there and distinct
pub fresh-none : (registers : List Named) → are_fresh (replicate 19 false) registers ≡ are_registers registers
fresh-none registers =
    fresh-is (replicate 19 false) registers (length-replicate 19 false)
    ∙ ap (λ t. are_registers registers && t) (unflagged-none registers) ∙ and_true (are_registers registers)
