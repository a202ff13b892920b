-- Which drivers were started, by flags.
use Rattle.std.proofs.Common.{◌≡◌, ℕ, ◌+◌, ◌≤◌, ◌<◌, ◌==◌, Bool, true, false, ◌||◌, List, [], ◌∷◌, ◌++◌, length, drop, get_or, replicate, not, filter, map, if◌then◌else◌}
use Rattle.std.proofs.Common.{refl, sym, ap, ◌∙◌, subst, arith}
use Rattle.std.proofs.lemmas.List.{get_or-replicate, length-replicate, at_drop_more, drop_all, append_assoc}
use Rattle.dispatcher.specs.declared.driver.Driver.{Driver}
use Rattle.dispatcher.specs.declared.driver.Started.{Started}
use Rattle.mm_base.specs.declared.guid.Guid.{Guid}
use Rattle.volume_boot.specs.Boots.{was_started, waiting_of}

-- flags with the starts that are left tell which of these drivers were started
pub record Marked (flags : List Bool) (count : ℕ) (left all : List Started) : Type 0 where
  pub long : length flags ≡ count
  pub each : (number : ℕ) → number < count → (get_or flags number false || was_started left number) ≡ was_started all number

or_moves : (a b c : Bool) → ((a || b) || c) ≡ (b || (a || c))
or_moves true true c = refl
or_moves true false c = refl
or_moves false b c = refl

or_none : (a : Bool) → (a || false) ≡ a
or_none true = refl
or_none false = refl

module _ (all : List Started) (count : ℕ) where
  pub at_first : (flags : List Bool) → flags ≡ replicate count false → Marked flags count all all
  at_first flags is = record {
    long = ap length is ∙ length-replicate count false;
    each = λ number below.
        ap (λ (f : List Bool). get_or f number false || was_started all number) is
        ∙ ap (λ b. b || was_started all number) (get_or-replicate count number false false below);
  }

  pub one_more : (flags more : List Bool) (k : ℕ) (d : Started) → k < length all → Marked flags count (drop k all) all
      → length more ≡ length flags
      → ((other : ℕ) → other < length flags → get_or more other false ≡ (((get_or all k d).index == other) || get_or flags other false))
      → Marked more count (drop (k + 1) all) all
  one_more flags more k d less marked long each = record {
    long = long ∙ marked.long;
    each = λ number below.
        let start = get_or all k d in
        let left = drop (k + 1) all in
        let here : number < length flags = omega (arith, marked.long) in
        let split : was_started (drop k all) number ≡ ((start.index == number) || was_started left number) =
        at_drop_more (λ (some : List Started). was_started some number) all k d less in
        ap (λ b. b || was_started left number) (each number here)
        ∙ or_moves (start.index == number) (get_or flags number false) (was_started left number)
        ∙ ap (λ b. get_or flags number false || b) (sym split)
        ∙ marked.each number below;
  }

  pub all_marked : (flags : List Bool) (k : ℕ) → length all ≤ k → Marked flags count (drop k all) all
      → (number : ℕ) → number < count → get_or flags number false ≡ was_started all number
  all_marked flags k past marked number below =
      sym (or_none (get_or flags number false))
      ∙ ap (λ (left : List Started). get_or flags number false || was_started left number) (sym (drop_all k all past))
      ∙ marked.each number below
