-- What a change of a run makes of each page.
use Rattle.std.proofs.Common.{◌≡◌, ℕ, ◌+◌, ◌-◌, ◌<◌, ◌≤◌, Bool, true, false, List, ◌++◌, length, take, drop, replicate, inl, inr, ap, ◌∙◌, sym, arith}
use Rattle.std.proofs.lemmas.Bool.{cases_lt}
use Rattle.std.proofs.lemmas.List.{length-append, length-drop, length-replicate, length-take-le, get_or-append_right, get_or_append_left, get_or-replicate, get_or-take, get_or-drop, ext_get_or}
use Rattle.page_runs.specs.Runs.{is_taken, IsRun, with_run}
use Rattle.page_runs.specs.RunLaws.{ChangesRun, ChangesTheseAlone, OneIsLowest, TakenMayBeGiven, ComesBack, GivenIsFree, ShareNoPage}

module _ (value : Bool) (start pages : ℕ) (taken : List Bool) (inside : start + pages ≤ length taken) where
  abbrev those_after : List Bool
  those_after = drop (start + pages) taken

  abbrev changed_on : List Bool
  changed_on = replicate pages value ++ those_after

  length-before : length (take start taken) ≡ start
  length-before = length-take-le start taken (omega arith)

  pub length-with_run : length (with_run value start pages taken) ≡ length taken
  length-with_run =
      omega (
        arith,
        length-before,
        length-append (take start taken) changed_on,
        length-append (replicate pages value) those_after,
        length-replicate pages value,
        length-drop (start + pages) taken,
      )

  is_before : (page : ℕ) → page < start → is_taken (with_run value start pages taken) page ≡ is_taken taken page
  is_before page below =
      get_or_append_left (take start taken) changed_on false page (omega (arith, length-before)) ∙ get_or-take start taken page false below

  from_start : (page : ℕ) → start ≤ page → is_taken (with_run value start pages taken) page ≡ is_taken changed_on (page - start)
  from_start page from = get_or-append_right (take start taken) changed_on start page false length-before from

  is_changed : (page : ℕ) → start ≤ page → page < start + pages → is_taken (with_run value start pages taken) page ≡ value
  is_changed page from to =
      from_start page from
      ∙ get_or_append_left (replicate pages value) those_after false (page - start) (omega (arith, length-replicate pages value))
      ∙ get_or-replicate pages (page - start) value false (omega arith)

  is_after : (page : ℕ) → start + pages ≤ page → is_taken (with_run value start pages taken) page ≡ is_taken taken page
  is_after page past =
      let there : start + pages + (page - start - pages) ≡ page = omega arith in
      from_start page (omega arith)
      ∙ get_or-append_right (replicate pages value) those_after pages (page - start) false (length-replicate pages value) (omega arith)
      ∙ get_or-drop (start + pages) taken (page - start - pages) false
      ∙ ap (is_taken taken) there

pub changes_these_alone : ChangesTheseAlone
changes_these_alone value start pages taken inside = record {
  as_many = length-with_run value start pages taken inside;
  changed = is_changed value start pages taken inside;
  before = is_before value start pages taken inside;
  after = is_after value start pages taken inside;
}

pub one_is_lowest : OneIsLowest
one_is_lowest taken pages one other first second =
    let below = first.lowest other second.run in
    let above = second.lowest one first.run in
    omega arith

pub taken_may_be_given : TakenMayBeGiven
taken_may_be_given taken pages start run =
    let change = changes_these_alone true start pages taken run.inside in
    let inside = run.inside in
    let as_many = change.as_many in
    record { inside = omega arith; each = change.changed }

pub given_is_free : GivenIsFree
given_is_free taken start pages those =
    let change = changes_these_alone false start pages taken those.inside in
    let inside = those.inside in
    let as_many = change.as_many in
    record { inside = omega arith; free = change.changed }

module _ (taken once again : List Bool) (start pages : ℕ) (run : IsRun taken pages start)
    (first : ChangesRun true start pages taken once) (second : ChangesRun false start pages once again) where
  page_comes_back : (page : ℕ) → is_taken again page ≡ is_taken taken page
  page_comes_back page = elim (cases_lt page start) [
    | inl below ↦ second.before page below ∙ first.before page below
    | inr from ↦ elim (cases_lt page (start + pages)) [
      | inl to ↦ second.changed page from to ∙ sym (run.free page from to)
      | inr past ↦ second.after page past ∙ first.after page past
    ]
  ]

  all_come_back : again ≡ taken
  all_come_back = ext_get_or false again taken (second.as_many ∙ first.as_many) (λ page _. page_comes_back page)

pub comes_back : ComesBack
comes_back taken pages start run =
    let once : List Bool = with_run true start pages taken in
    let first = changes_these_alone true start pages taken run.inside in
    let may_give = taken_may_be_given taken pages start run in
    let second = changes_these_alone false start pages once may_give.inside in
    all_come_back taken once (with_run false start pages once) start pages run first second

pub share_no_page : ShareNoPage
share_no_page taken pages start more later page run next from to later_from later_to =
    let change = changes_these_alone true start pages taken run.inside in
    let is = change.changed page from to in
    let not = next.free page later_from later_to in
    cc
