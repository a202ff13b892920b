-- The bytes of parts, multiples of them, and the sizes of blocks.
use Rattle.std.proofs.Common.{◌≡◌, ◌⊎◌, ℕ, zero, suc, ◌+◌, ◌-◌, ◌*◌, ◌^◌, ◌<◌, ◌≤◌, refl, sym, ap, ◌∙◌, subst, inl, inr, arith, lit≤}
use Rattle.std.proofs.Common.{le_refl, one-mul, mul_assoc, mul_comm, add-mul, suc-add, pow-suc, pow_mono, le_antisymm, mul-le-mul_right}
use Rattle.std.proofs.Common.{lt_of_mul-lt-mul_right, mod-eq_of_lt, ◌%◌}
use Rattle.std.proofs.lemmas.Bool.{cases_lt}
use Rattle.std.specs.Int.{IsPowerOfTwo}
use Rattle.pool_tree.specs.Pool.{IsMultiple, IsBlockSize}
use Rattle.pool_tree.specs.PoolInside.{IsPart}
use Rattle.pool_tree.specs.TreeInside.{part_bytes}

-- a part has some bytes
pub bytes_some : (level : ℕ) → 16 ≤ part_bytes level
bytes_some zero = lit≤ tt
bytes_some (suc level) = omega (arith, bytes_some level)

-- a part of a level above has no fewer
pub bytes_rise : (low high : ℕ) → low ≤ high → part_bytes low ≤ part_bytes high
bytes_rise low zero h =
    let none : low ≡ 0 = omega arith in
    subst (λ level. part_bytes low ≤ part_bytes level) none (le_refl (part_bytes low))
bytes_rise low (suc high) h =
    elim (cases_lt low (suc high)) [
      | inl lt ↦ omega (arith, bytes_rise low high (omega arith))
      | inr ge ↦
          let same : low ≡ suc high = omega arith in
          subst (λ level. part_bytes low ≤ part_bytes level) same (le_refl (part_bytes low))
    ]

-- ---- multiples

pub multiple_same : (unit : ℕ) → IsMultiple unit unit
multiple_same unit = (1, sym (one-mul unit))

pub multiple_trans : (large middle small : ℕ) → IsMultiple large middle → IsMultiple middle small → IsMultiple large small
multiple_trans large middle small a b =
    (a.0 * b.0, a.1 ∙ ap (λ x. a.0 * x) b.1 ∙ sym (mul_assoc a.0 b.0 small))

pub multiple_add : (one other unit : ℕ) → IsMultiple one unit → IsMultiple other unit → IsMultiple (one + other) unit
multiple_add one other unit a b = (a.0 + b.0, omega (arith, a.1, b.1, add-mul a.0 b.0 unit))

-- the bytes of a part are a multiple of those of a smaller one
pub bytes_divide : (low high : ℕ) → low ≤ high → IsMultiple (part_bytes high) (part_bytes low)
bytes_divide low zero h =
    let none : low ≡ 0 = omega arith in
    subst (λ level. IsMultiple (part_bytes level) (part_bytes low)) none (multiple_same (part_bytes low))
bytes_divide low (suc high) h =
    elim (cases_lt low (suc high)) [
      | inl lt ↦ multiple_trans (part_bytes (suc high)) (part_bytes high) (part_bytes low) (2, refl) (bytes_divide low high (omega arith))
      | inr ge ↦
          let same : low ≡ suc high = omega arith in
          subst (λ level. IsMultiple (part_bytes level) (part_bytes low)) same (multiple_same (part_bytes low))
    ]

-- a multiple of a unit that begins before another one ends there or before
pub ends_before : (unit place seam : ℕ) → IsMultiple place unit → IsMultiple seam unit → place < seam → place + unit ≤ seam
ends_before unit place seam a b before =
    let there : a.0 * unit < b.0 * unit = omega (arith, a.1, b.1) in
    let counts : a.0 < b.0 = lt_of_mul-lt-mul_right unit there in
    let next : suc a.0 * unit ≤ b.0 * unit = mul-le-mul_right unit counts in
    omega (arith, a.1, b.1, next)

-- ---- parts

pub part_left : (level base : ℕ) → IsPart (suc level) base → IsPart level base
part_left level base part = record {
  aligned = multiple_trans base (part_bytes (suc level)) (part_bytes level) part.aligned (2, refl);
  within = omega (arith, part.within);
}

pub part_right : (level base : ℕ) → IsPart (suc level) base → IsPart level (base + part_bytes level)
part_right level base part = record {
  aligned = multiple_add base (part_bytes level) (part_bytes level) (part_left level base part).aligned (multiple_same (part_bytes level));
  within = omega (arith, part.within);
}

-- ---- sizes of blocks

pub bytes-pow : (level : ℕ) → part_bytes level ≡ 2 ^ (level + 4)
bytes-pow zero = refl
bytes-pow (suc level) =
    ap (λ bytes. 2 * bytes) (bytes-pow level) ∙ mul_comm 2 (2 ^ (level + 4)) ∙ sym (pow-suc 2 (level + 4))
    ∙ ap (λ k. 2 ^ k) (sym (suc-add level 4))

bytes-product : (level : ℕ) → part_bytes level ≡ 16 * 2 ^ level
bytes-product zero = refl
bytes-product (suc level) = omega (arith, pow-suc 2 level, bytes-product level)

-- a shift gives them
pub bytes_shifted : (level : ℕ) → level ≤ 12 → 16 * 2 ^ level % 4294967296 ≡ part_bytes level
bytes_shifted level low =
    let most : part_bytes level ≤ 65536 = bytes_rise level 12 low in
    let fits : 16 * 2 ^ level < 4294967296 = omega (arith, bytes-product level, most) in
    mod-eq_of_lt fits ∙ sym (bytes-product level)

-- the bytes of the smallest part that holds n bytes, where parts of 32 bytes and more hold them
pub size_at : (n level : ℕ) → n ≤ part_bytes (suc level) → (level ≡ 0) ⊎ (part_bytes level < n) → IsBlockSize n (part_bytes (suc level))
size_at n level holds smallest = record {
  power = (suc level + 4, bytes-pow (suc level));
  floor = omega (arith, bytes_some level);
  holds = holds;
  least = λ other power floor enough. elim (cases_lt other (part_bytes (suc level))) [
    | inr above ↦ above
    | inl below ↦ absurd (too_small other power floor enough below)
  ];
}
  where
    too_small : (other : ℕ) → IsPowerOfTwo other → 32 ≤ other → n ≤ other → other < part_bytes (suc level) → ⊥
    too_small other power floor enough below = elim (cases_lt power.0 (suc level + 4)) [
      | inr above ↦
          let more : 2 ^ (suc level + 4) ≤ 2 ^ power.0 = pow_mono above in
          omega (arith, more, power.1, bytes-pow (suc level))
      | inl before ↦
          let at_most : power.0 ≤ level + 4 = omega arith in
          let fewer : 2 ^ power.0 ≤ 2 ^ (level + 4) = pow_mono at_most in
          let small : other ≤ part_bytes level = omega (arith, fewer, power.1, bytes-pow level) in
          elim smallest [
            | inl none ↦
                let bytes : part_bytes level ≡ 16 = ap part_bytes none in
                omega arith
            | inr short ↦ omega arith
          ]
    ]

-- n bytes have one size
pub size_unique : (n one other : ℕ) → IsBlockSize n one → IsBlockSize n other → one ≡ other
size_unique n one other a b =
    le_antisymm (a.least other b.power b.floor b.holds) (b.least one a.power a.floor a.holds)

-- and they have one
size_up_to : (n level : ℕ) → n ≤ part_bytes (suc level) → (size : ℕ) × IsBlockSize n size
size_up_to n zero holds = (part_bytes 1, size_at n zero holds (inl refl))
size_up_to n (suc level) holds =
    elim (cases_lt (part_bytes (suc level)) n) [
      | inl short ↦ (part_bytes (suc (suc level)), size_at n (suc level) holds (inr short))
      | inr enough ↦ size_up_to n level enough
    ]

bytes_more : (n : ℕ) → n ≤ part_bytes (suc n)
bytes_more zero = omega arith
bytes_more (suc n) = omega (arith, bytes_more n, bytes_some n)

pub size_exists : (n : ℕ) → (size : ℕ) × IsBlockSize n size
size_exists n = size_up_to n n (bytes_more n)

-- ---- the search for a level

-- a level whose parts are too small for the bytes of an arena is not the top
pub level_more : (n level : ℕ) → n ≤ 65536 → level ≤ 12 → part_bytes level < n → level + 1 ≤ 12
level_more n level fits high short = elim (cases_lt level 12) [
  | inl below ↦ omega arith
  | inr top ↦
      let same : level ≡ 12 = omega arith in
      let bytes : part_bytes level ≡ 65536 = ap part_bytes same in
      omega arith
]

-- the level at which the search stops has the size of the block
pub size_found : (n level : ℕ) → 1 ≤ level → n ≤ part_bytes level → (level ≡ 1) ⊎ (part_bytes (level - 1) < n)
    → IsBlockSize n (part_bytes level)
size_found n zero low holds short = absurd (omega arith)
size_found n (suc level) low holds short =
    let below : suc level - 1 ≡ level = omega arith in
    size_at n level holds
    (elim short [
      | inl one ↦ inl (omega arith)
      | inr few ↦ inr (subst (λ k. part_bytes k < n) below few)
    ])
