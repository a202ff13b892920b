-- One pass in search of the lowest run: the free pages right before a page, and what the next page makes of them.
use Rattle.std.proofs.Common.{◌≡◌, ◌↔◌, ℕ, ◌+◌, ◌<◌, ◌≤◌, Bool, true, false, List, length, Option, Some, None, inl, inr, ap, subst, sym, ◌∙◌, arith}
use Rattle.std.proofs.lemmas.Bool.{cases_lt}
use Rattle.page_runs.specs.Runs.{is_taken, IsRun, IsLowestRun, HasNoRun}

module _ (taken : List Bool) (pages : ℕ) where
  -- The pages from start up to page are free, and fewer than are wanted. No run starts before them.
  pub record FreeSoFar (start page : ℕ) : Type 0 where
    pub begun : start ≤ page
    pub few : page < start + pages
    pub free : (k : ℕ) → start ≤ k → k < page → is_taken taken k ≡ false
    pub none_before : (other : ℕ) → other < start → IsRun taken pages other → ⊥

  -- before the first page
  pub begins : 1 ≤ pages → FreeSoFar 0 0
  begins some = record {
    begun = omega arith;
    few = omega arith;
    free = λ k _ below. absurd (omega arith);
    none_before = λ other below _. absurd (omega arith);
  }

  module _ (start page : ℕ) (so_far : FreeSoFar start page) where
    -- a run that starts at one of the free pages, or at the next one, has the next one
    next_is_free : (other : ℕ) → start ≤ other → other ≤ page → IsRun taken pages other → is_taken taken page ≡ false
    next_is_free other from to run = run.free page to (omega arith)

    -- a page that is taken ends them
    pub after_taken : 1 ≤ pages → is_taken taken page ≡ true → FreeSoFar (page + 1) (page + 1)
    after_taken some is = record {
      begun = omega arith;
      few = omega arith;
      free = λ k from below. absurd (omega arith);
      none_before = λ other below run. elim (cases_lt other start) [
        | inl before ↦ so_far.none_before other before run
        | inr from ↦ let not = next_is_free other from (omega arith) run in absurd cc
      ];
    }

    up_to_next : is_taken taken page ≡ false → (k : ℕ) → start ≤ k → k < page + 1 → is_taken taken k ≡ false
    up_to_next is k from below = elim (cases_lt k page) [
      | inl before ↦ so_far.free k from before
      | inr not ↦ let same : k ≡ page = omega arith in ap (is_taken taken) same ∙ is
    ]

    -- a free page is one more of them
    pub after_free : is_taken taken page ≡ false → page + 1 < start + pages → FreeSoFar start (page + 1)
    after_free is few = record {
      begun = omega arith;
      few = few;
      free = up_to_next is;
      none_before = so_far.none_before;
    }

    -- a free page makes them as many as are wanted
    pub found : is_taken taken page ≡ false → page + 1 ≡ start + pages → page < length taken → IsLowestRun taken pages start
    found is all there = record {
      run = record {
        inside = omega arith;
        free = λ k from below. up_to_next is k from (omega arith);
      };
      lowest = λ other run. elim (cases_lt other start) [
        | inl before ↦ absurd (so_far.none_before other before run)
        | inr from ↦ from
      ];
    }

    -- after the last page
    pub none_left : page ≡ length taken → HasNoRun taken pages
    none_left end other run = elim (cases_lt other start) [
      | inl before ↦ so_far.none_before other before run
      | inr from ↦ let inside = run.inside in absurd (omega arith)
    ]

-- The two answers, where what was searched is the list that is meant.
module _ (seen taken : List Bool) (pages : ℕ) (same : seen ≡ taken) where
  pub answers_none : (result : Option ℕ) → result ≡ None → HasNoRun seen pages → (result ≡ None) ↔ HasNoRun taken pages
  answers_none result is none = (λ _. subst (λ (flags : List Bool). HasNoRun flags pages) same none, λ _. is)

  pub answers_some : (start : ℕ) → IsLowestRun seen pages start → (Some start ≡ None) ↔ HasNoRun taken pages
  answers_some start first = (
    λ e. absurd cc,
    λ none. absurd (subst (λ (flags : List Bool). HasNoRun flags pages) (sym same) none start first.run),
  )
