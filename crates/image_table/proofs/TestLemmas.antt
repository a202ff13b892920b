-- Sections for tests, put from both ends of a gap.
use Rattle.std.proofs.Common.{◌≡◌, ℕ, ◌+◌, ◌-◌, ◌*◌, ◌<◌, ◌≤◌, ◌⊎◌, false, List, [], ◌∷◌, ◌++◌, get_or, inl, inr, arith, length-append}
use Rattle.std.specs.List.{All}
use Rattle.std.proofs.lemmas.Bool.Decides.{nat_tests}
use Rattle.std.proofs.lemmas.List.Elements.{All-nil, All-push, All-weaker}
use Rattle.std.proofs.lemmas.List.Quantifiers.{all_pairs_push}
use Rattle.mm_base.specs.Range.{share_a_unit}
use Rattle.mm_base.specs.declared.image.Part.{Part}
use Rattle.image_table.specs.Sections.{part_range}
use Rattle.image_table.specs.TestImages.{Fit}

-- a part lies on one side of a gap or on the other
abbrev pub Beside : ℕ → ℕ → Part → Type 0
Beside low high part = (part.at + part.length ≤ low) ⊎ (high ≤ part.at)

-- some parts are done, and the gap has 16 bytes for each of those that come
pub record Halfway (end done more low high : ℕ) (parts : List Part) : Type 0 where
  pub fit : Fit 512 end done parts
  pub from : 512 ≤ low
  pub gap : low + 16 * more ≡ high
  pub to : high ≤ end
  pub around : All (Beside low high) parts

pub none_done : (end count high : ℕ) → high ≡ 512 + 16 * count → end ≡ high → Halfway end 0 (count - 0) 512 high []
none_done end count high is ends = record {
  fit = record {
    count = omega arith;
    within = All-nil (λ (part : Part). (512 ≤ part.at) × (part.at + part.length ≤ end));
    apart = λ i j d less within. absurd (omega arith);
  };
  from = omega arith;
  gap = omega arith;
  to = omega arith;
  around = All-nil (Beside 512 high);
}

apart_beside : (low high : ℕ) (earlier part : Part)
    → Beside low high earlier
    → low ≤ part.at
    → part.at + part.length ≤ high
    → share_a_unit (part_range earlier) (part_range part) ≡ false
apart_beside low high earlier part (inl before) from to = grind (arith, nat_tests)
apart_beside low high earlier part (inr after) from to = grind (arith, nat_tests)

-- one part more, in the gap
one_more : (end done low high : ℕ) (parts : List Part) (part : Part)
    → Fit 512 end done parts
    → All (Beside low high) parts
    → 512 ≤ low
    → high ≤ end
    → low ≤ part.at
    → part.at + part.length ≤ high
    → Fit 512 end (done + 1) (parts ++ part ∷ [])
one_more end done low high parts part fit around least most from to = record {
  count = omega (arith, fit.count, length-append parts (part ∷ []));
  within = All-push (λ (part : Part). (512 ≤ part.at) × (part.at + part.length ≤ end)) parts part fit.within (omega arith, omega arith);
  apart =
      all_pairs_push (λ (earlier part : Part). share_a_unit (part_range earlier) (part_range part) ≡ false) parts part fit.apart
      (λ k d within. apart_beside low high (get_or parts k d) part (around k d within) from to);
}

beside_lower : (low high : ℕ) (part : Part) → Beside low high part → Beside (low + 16) high part
beside_lower low high part (inl before) = inl (omega arith)
beside_lower low high part (inr after) = inr after

beside_higher : (low high : ℕ) (part : Part) → Beside low high part → Beside low (high - 16) part
beside_higher low high part (inl before) = inl before
beside_higher low high part (inr after) = inr (omega arith)

-- the part stands at the lower end of the gap
pub lowest_done : (end count k low high : ℕ) (parts : List Part) (part : Part)
    → k < count
    → Halfway end k (count - k) low high parts
    → part.at ≡ low
    → part.length ≡ 8
    → Halfway end (k + 1) (count - (k + 1)) (low + 16) high (parts ++ part ∷ [])
lowest_done end count k low high parts part less halfway at length_is = record {
  fit = one_more end k low high parts part halfway.fit halfway.around halfway.from halfway.to (omega arith) (omega (arith, halfway.gap));
  from = omega (arith, halfway.from);
  gap = omega (arith, halfway.gap);
  to = halfway.to;
  around =
      All-push (Beside (low + 16) high) parts part
      (All-weaker (Beside low high) (Beside (low + 16) high) (beside_lower low high) parts halfway.around)
      (inl (omega arith));
}

-- it stands at the upper end
pub highest_done : (end count k low high : ℕ) (parts : List Part) (part : Part)
    → k < count
    → Halfway end k (count - k) low high parts
    → part.at ≡ high - 16
    → part.length ≡ 8
    → Halfway end (k + 1) (count - (k + 1)) low (high - 16) (parts ++ part ∷ [])
highest_done end count k low high parts part less halfway at length_is = record {
  fit =
      one_more end k low high parts part halfway.fit halfway.around halfway.from halfway.to (omega (arith, halfway.gap))
      (omega (arith, halfway.gap));
  from = halfway.from;
  gap = omega (arith, halfway.gap);
  to = omega (arith, halfway.to);
  around =
      All-push (Beside low (high - 16)) parts part
      (All-weaker (Beside low high) (Beside low (high - 16)) (beside_higher low high) parts halfway.around)
      (inr (omega arith));
}
