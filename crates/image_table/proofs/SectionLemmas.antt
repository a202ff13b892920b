-- Parts by rising address: sorting in place gives the order of the definition.
use Rattle.std.proofs.Common.{◌≡◌, ℕ, zero, suc, ◌+◌, ◌*◌, ◌<◌, ◌≤◌, ◌⊎◌, Bool, true, false, cond, List, [], ◌∷◌, length, get_or}
use Rattle.std.proofs.Common.{refl, sym, ap, ◌∙◌, subst, inl, inr, arith}
use Rattle.std.specs.Prelude.{if◌then◌else◌, nat_le, nat_lt, ◌&&◌}
use Rattle.std.specs.List.{All, AllPairs, Contains, filter, sum_by}
use Rattle.std.specs.List.Sorted.{IsNonDecreasingBy, IsPermutation}
use Rattle.std.proofs.lemmas.Bool.Decides.{nat_tests}
use Rattle.std.proofs.lemmas.List.Elements.{All-nil, All-cons, All-head, All-tail, All-weaker, All-filter, All-contains, filter_passes}
use Rattle.std.proofs.lemmas.List.Elements.{Contains-append_right}
use Rattle.std.proofs.lemmas.List.Kept.{AllPairs-cons, AllPairs-filter}
use Rattle.std.proofs.lemmas.List.Sorted.{All-permutation, Contains-permutation, IsPermutation-cons, IsPermutation-middle, IsPermutation-refl, IsPermutation-sym, IsPermutation-trans, sum_by-IsPermutation}
use Rattle.std.proofs.lemmas.List.Sums.{get_or-le-sum_by, sum_by-le, sum_by_from}
use Rattle.mm_base.specs.Range.{share_a_unit}
use Rattle.mm_base.specs.declared.image.Part.{Part}
use Rattle.image_table.specs.Laws.{SectionsRise}
use Rattle.image_table.specs.Sections.{AreApart, has_bytes, in_order, part_range, sections_of, with_part}

abbrev pub HasBytes : Part → Type 0
HasBytes part = 0 < part.length

-- a part ends before another begins
abbrev pub EndsBefore : Part → Part → Type 0
EndsBefore part later = part.at + part.length ≤ later.at

abbrev pub BeginsBefore : Part → Part → Type 0
BeginsBefore part later = part.at ≤ later.at

-- the relation holds of each part and each later one, by recursion
abbrev pub Chain : (Part → Part → Type 0) → List Part → Type 0
Chain R [] = Unit {0}
Chain R (part ∷ parts) = All (R part) parts × Chain R parts

pub AllPairs-from_Chain : (R : Part → Part → Type 0) (parts : List Part) → Chain R parts → AllPairs R parts
AllPairs-from_Chain R [] chain = λ i j d less within. absurd (omega arith)
AllPairs-from_Chain R (part ∷ parts) chain = AllPairs-cons R part parts chain.0 (AllPairs-from_Chain R parts chain.1)

-- how many of some parts have a byte

abbrev pub count_at : ℕ → Part → ℕ
count_at unit part = cond (nat_le part.at unit && nat_lt unit (part.at + part.length)) 1 0

abbrev pub count_of : ℕ → List Part → ℕ
count_of unit parts = sum_by (count_at unit) parts

pub count_of-cons : (unit : ℕ) (part : Part) (parts : List Part) → count_of unit (part ∷ parts) ≡ count_at unit part + count_of unit parts
count_of-cons unit part parts = sum_by_from (count_at unit) (0 + count_at unit part) parts ∙ grind arith

none_or_one : (b : Bool) → (◌≡◌ {A = ℕ} (cond b 1 0) 0) ⊎ (◌≡◌ {A = ℕ} (cond b 1 0) 1)
none_or_one true = inr refl
none_or_one false = inl refl

not_both : (unit : ℕ) (part other : Part)
    → share_a_unit (part_range part) (part_range other) ≡ false
    → count_at unit part ≡ 1
    → count_at unit other ≤ 0
not_both unit part other apart one = grind (arith, nat_tests)

-- where no two share a byte, each byte is in one at most
pub count_of-apart : (unit : ℕ) (parts : List Part) → AreApart parts → count_of unit parts ≤ 1
count_of-apart unit [] apart = omega arith
count_of-apart unit (part ∷ parts) apart =
    let Apart : Part → Part → Type 0 = λ one other. share_a_unit (part_range one) (part_range other) ≡ false in
    let rest : count_of unit parts ≤ 1 =
    count_of-apart unit parts (λ i j d less within. apart (suc i) (suc j) d (omega arith) (omega arith)) in
    let others : All (Apart part) parts = λ k d within. apart 0 (suc k) d (omega arith) (omega arith) in
    elim (none_or_one (nat_le part.at unit && nat_lt unit (part.at + part.length))) [
      | inl none ↦ omega (arith, count_of-cons unit part parts, rest, none)
      | inr one ↦
          let nothing : count_of unit parts ≤ length parts * 0 =
          sum_by-le (count_at unit) 0 parts (All-weaker (Apart part) (λ other. count_at unit other ≤ 0) (λ other apart. not_both unit part other apart one) parts others) in
          omega (arith, count_of-cons unit part parts, nothing, one)
    ]

ends_before : (part later : Part) (n : ℕ)
    → part.at ≤ later.at
    → 0 < later.length
    → count_at later.at later ≤ n
    → count_at later.at part + n ≤ 1
    → part.at + part.length ≤ later.at
ends_before part later n begins some here both = grind (arith, nat_tests)

-- parts in order of where they begin, of which each byte is in one at most, end before the next begins
pub Chain-from_counts : (parts : List Part)
    → Chain BeginsBefore parts
    → All HasBytes parts
    → ((unit : ℕ) → count_of unit parts ≤ 1)
    → Chain EndsBefore parts
Chain-from_counts [] up some one = tt
Chain-from_counts (part ∷ parts) up some one = (
  λ k d within.
      let here : count_at (get_or parts k d).at (get_or parts k d) ≤ count_of (get_or parts k d).at parts =
      get_or-le-sum_by (count_at (get_or parts k d).at) parts k d within in
      let both : count_at (get_or parts k d).at part + count_of (get_or parts k d).at parts ≤ 1 =
      omega (arith, one (get_or parts k d).at, count_of-cons (get_or parts k d).at part parts) in
      ends_before part (get_or parts k d) _ (up.0 k d within) (All-tail HasBytes part parts some k d within) here both,
  Chain-from_counts parts up.1 (All-tail HasBytes part parts some) (λ unit. omega (arith, one unit, count_of-cons unit part parts)),
)

-- the order of the definition

pub IsPermutation-with_part : (part : Part) (parts : List Part) → IsPermutation (part ∷ parts) (with_part part parts)
IsPermutation-with_part part [] = IsPermutation-refl (part ∷ [])
IsPermutation-with_part part (first ∷ parts) =
    elim (nat_le part.at first.at)
    as (λ b. IsPermutation (part ∷ first ∷ parts) (if b then part ∷ first ∷ parts else first ∷ with_part part parts)) [
      | true ↦ IsPermutation-refl _
      | false ↦
          IsPermutation-trans _ _ _
          (IsPermutation-middle (part ∷ []) first parts)
          (IsPermutation-cons first _ _ (IsPermutation-with_part part parts))
    ]

pub IsPermutation-in_order : (parts : List Part) → IsPermutation parts (in_order parts)
IsPermutation-in_order [] = IsPermutation-refl []
IsPermutation-in_order (part ∷ parts) =
    IsPermutation-trans _ _ _
    (IsPermutation-cons part _ _ (IsPermutation-in_order parts))
    (IsPermutation-with_part part (in_order parts))

before_or_after : (part first : Part) (parts : List Part) (b : Bool)
    → nat_le part.at first.at ≡ b
    → Chain BeginsBefore (first ∷ parts)
    → Chain BeginsBefore (with_part part parts)
    → Chain BeginsBefore (if b then part ∷ first ∷ parts else first ∷ with_part part parts)
before_or_after part first parts true is up rest =
    let begins : part.at ≤ first.at = grind (arith, nat_tests) in (
      All-cons (BeginsBefore part) first parts begins
          (All-weaker (BeginsBefore first) (BeginsBefore part) (λ later after. omega arith) parts up.0),
      up,
    )
before_or_after part first parts false is up rest =
    let begins : first.at ≤ part.at = grind (arith, nat_tests) in (
      All-permutation (BeginsBefore first) _ _ (IsPermutation-with_part part parts) (All-cons (BeginsBefore first) part parts begins up.0),
      rest,
    )

pub Chain-with_part : (part : Part) (parts : List Part) → Chain BeginsBefore parts → Chain BeginsBefore (with_part part parts)
Chain-with_part part [] up = (All-nil (BeginsBefore part), tt)
Chain-with_part part (first ∷ parts) up =
    before_or_after part first parts (nat_le part.at first.at) refl up (Chain-with_part part parts up.1)

pub Chain-in_order : (parts : List Part) → Chain BeginsBefore (in_order parts)
Chain-in_order [] = tt
Chain-in_order (part ∷ parts) = Chain-with_part part (in_order parts) (Chain-in_order parts)

Chain-from_sorted : (parts : List Part) → IsNonDecreasingBy (λ part. part.at) parts → Chain BeginsBefore parts
Chain-from_sorted [] up = tt
Chain-from_sorted (part ∷ parts) up = (
  λ k d within. up 0 (suc k) d (omega arith) (omega arith),
  Chain-from_sorted parts (λ i j d less within. up (suc i) (suc j) d (omega arith) (omega arith)),
)

-- two chains of the same parts are one

contains_cases : (part : Part) (parts : List Part) (one : Part) → Contains (part ∷ parts) one → (part ≡ one) ⊎ Contains parts one
contains_cases part parts one (zero, within, is) = inl is
contains_cases part parts one (suc k, within, is) = inr (k, omega arith, is)

contains_tail : (part : Part) (parts others : List Part)
    → Chain EndsBefore (part ∷ parts)
    → All HasBytes (part ∷ parts)
    → ((one : Part) → Contains (part ∷ parts) one → Contains (part ∷ others) one)
    → (one : Part)
    → Contains parts one
    → Contains others one
contains_tail part parts others chain some same one has =
    elim (contains_cases part others one (same one (Contains-append_right (part ∷ []) parts one has))) [
      | inl is ↦
          let P : Part → Type 0 = λ z. part.at + part.length ≤ z.at in
          let ends : part.at + part.length ≤ part.at = subst P (sym is) (All-contains (EndsBefore part) parts one chain.0 has) in
          let bytes : 0 < part.length = All-head HasBytes part parts some in
          absurd (omega arith)
      | inr there ↦ there
    ]

contains_none : (one : Part) → Contains [] one → ⊥
contains_none one (k, within, is) = omega arith

-- the heads of two chains of the same parts
same_head : (part other : Part) (parts others : List Part)
    → Chain EndsBefore (part ∷ parts)
    → Chain EndsBefore (other ∷ others)
    → All HasBytes (part ∷ parts)
    → Contains (other ∷ others) part
    → Contains (part ∷ parts) other
    → part ≡ other
same_head part other parts others chain later some there here =
    elim (contains_cases other others part there) [
      | inl is ↦ sym is
      | inr after ↦
          elim (contains_cases part parts other here) [
            | inl is ↦ is
            | inr behind ↦
                let one : other.at + other.length ≤ part.at = All-contains (EndsBefore other) others part later.0 after in
                let two : part.at + part.length ≤ other.at = All-contains (EndsBefore part) parts other chain.0 behind in
                let bytes : 0 < part.length = All-head HasBytes part parts some in
                absurd (omega arith)
          ]
    ]

pub one_chain : (parts others : List Part)
    → Chain EndsBefore parts
    → Chain EndsBefore others
    → All HasBytes parts
    → All HasBytes others
    → ((one : Part) → Contains parts one → Contains others one)
    → ((one : Part) → Contains others one → Contains parts one)
    → parts ≡ others
one_chain [] [] chain later some more to from = refl
one_chain [] (other ∷ others) chain later some more to from = absurd (contains_none other (from other (0, omega arith, refl)))
one_chain (part ∷ parts) [] chain later some more to from = absurd (contains_none part (to part (0, omega arith, refl)))
one_chain (part ∷ parts) (other ∷ others) chain later some more to from =
    let P : Part → Type 0 =
    λ head.
    Chain EndsBefore (head ∷ others)
    → All HasBytes (head ∷ others)
    → ((one : Part) → Contains (part ∷ parts) one → Contains (head ∷ others) one)
    → ((one : Part) → Contains (head ∷ others) one → Contains (part ∷ parts) one)
    → part ∷ parts ≡ head ∷ others in
    let same : part ≡ other =
    same_head part other parts others chain later some (to part (0, omega arith, refl)) (from other (0, omega arith, refl)) in
    subst P same
    (λ rest bytes onto back.
    ap (λ all. part ∷ all)
    (one_chain parts others chain.1 rest.1 (All-tail HasBytes part parts some) (All-tail HasBytes part others bytes)
    (contains_tail part parts others chain some onto)
    (contains_tail part others parts rest bytes back)))
    later more to from

-- what holds of the sections of some parts

some_bytes : (part : Part) → has_bytes part ≡ true → HasBytes part
some_bytes part is = grind (arith, nat_tests)

pub All-sections_of : (P : Part → Type 0) (parts : List Part) → All P parts → All P (sections_of parts)
All-sections_of P parts all =
    All-permutation P _ _ (IsPermutation-in_order (filter has_bytes parts)) (All-filter has_bytes P parts all)

kept_bytes : (parts : List Part) → All HasBytes (filter has_bytes parts)
kept_bytes parts =
    All-weaker (λ part. has_bytes part ≡ true) HasBytes some_bytes (filter has_bytes parts) (filter_passes has_bytes parts)

pub HasBytes-sections_of : (parts : List Part) → All HasBytes (sections_of parts)
HasBytes-sections_of parts =
    All-permutation HasBytes _ _ (IsPermutation-in_order (filter has_bytes parts)) (kept_bytes parts)

-- any order of the sections has each byte once at most
counts_of : (parts sections : List Part) → AreApart parts → IsPermutation (filter has_bytes parts) sections → (unit : ℕ) → count_of unit sections ≤ 1
counts_of parts sections apart moved unit =
    let Apart : Part → Part → Type 0 = λ one other. share_a_unit (part_range one) (part_range other) ≡ false in
    omega (
      arith,
      sum_by-IsPermutation (count_at unit) (filter has_bytes parts) sections moved,
      count_of-apart unit (filter has_bytes parts) (AllPairs-filter Apart has_bytes parts apart),
    )

chain_of : (parts sections : List Part)
    → AreApart parts
    → IsPermutation (filter has_bytes parts) sections
    → Chain BeginsBefore sections
    → Chain EndsBefore sections
chain_of parts sections apart moved up =
    Chain-from_counts sections up (All-permutation HasBytes _ _ moved (kept_bytes parts)) (counts_of parts sections apart moved)

pub Chain-sections_of : (parts : List Part) → AreApart parts → Chain EndsBefore (sections_of parts)
Chain-sections_of parts apart =
    chain_of parts (sections_of parts) apart (IsPermutation-in_order (filter has_bytes parts)) (Chain-in_order (filter has_bytes parts))

-- what sorting in place leaves
pub sorted_is_sections_of : (parts kept sorted : List Part)
    → AreApart parts
    → kept ≡ filter has_bytes parts
    → IsPermutation kept sorted
    → IsNonDecreasingBy (λ part. part.at) sorted
    → sorted ≡ sections_of parts
sorted_is_sections_of parts kept sorted apart is moved up =
    let P : List Part → Type 0 = λ all. IsPermutation all sorted in
    let from : IsPermutation (filter has_bytes parts) sorted = subst P is moved in
    let onto : IsPermutation (filter has_bytes parts) (sections_of parts) = IsPermutation-in_order (filter has_bytes parts) in
    one_chain sorted (sections_of parts)
    (chain_of parts sorted apart from (Chain-from_sorted sorted up))
    (Chain-sections_of parts apart)
    (All-permutation HasBytes _ _ from (kept_bytes parts))
    (HasBytes-sections_of parts)
    (λ one has. Contains-permutation _ _ one onto (Contains-permutation _ _ one (IsPermutation-sym _ _ from) has))
    (λ one has. Contains-permutation _ _ one from (Contains-permutation _ _ one (IsPermutation-sym _ _ onto) has))

pub sections_rise : SectionsRise
sections_rise parts apart = AllPairs-from_Chain EndsBefore (sections_of parts) (Chain-sections_of parts apart)
