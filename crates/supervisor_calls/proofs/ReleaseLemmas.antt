-- That pages are given back as the service says: its deed asks whether they may be written, and its own pages always may.
use Rattle.std.proofs.Common.{◌≡◌, ℕ, ◌*◌, ◌-◌, ◌%◌, ◌≤◌, ◌<◌, Bool, true, false, not, ◌||◌, ◌==◌, if◌then◌else◌, List, length, Option, Result, Ok, All, eqb, refl, sym, ap, ◌∙◌, subst, arith}
use Rattle.std.specs.Option.{option_map_or}
use Rattle.std.proofs.lemmas.Bool.Decides.{nat_tests}
use Rattle.image_table.specs.HomeRanges.{IsPlaced}
use Rattle.image_table.specs.declared.placed_image.PlacedImage.{PlacedImage}
use Rattle.mm_base.specs.Bus.{Answers}
use Rattle.mm_base.specs.Cells.{is_device_byte}
use Rattle.mm_base.specs.Frames.{zeros}
use Rattle.mm_base.specs.Numbers.{overwritten}
use Rattle.mm_base.specs.Range.{encloses}
use Rattle.mm_base.specs.Regions.{stack_of, communicate_page_of, pool_of, reserve_of}
use Rattle.mm_base.specs.Statuses.{success, not_found}
use Rattle.mm_base.specs.declared.access.Kind.TheVariants as kinds
use Rattle.mm_base.specs.declared.access.Right.TheVariants as rights
use Rattle.mm_base.specs.declared.access.Verdict.{Verdict}
use Rattle.mm_base.specs.declared.access.Verdict.TheVariants.{Pass}
use Rattle.mm_base.specs.declared.access.Why.TheVariants as whys
use Rattle.mm_base.specs.declared.bus.Served.{Served}
use Rattle.mm_base.specs.declared.bus.Served.TheVariants.{Status}
use Rattle.mm_base.specs.declared.range.Range.{Range}
use Rattle.mm_base.specs.declared.region.Region.{Region}
use Rattle.page_runs.specs.Runs.{with_run}
use Rattle.secure_policy.specs.Verdicts.{units_from}
use Rattle.supervisor_calls.specs.Accesses.{denial_of, with_bytes, with_quota}
use Rattle.supervisor_calls.specs.Deeds.{Deed, Returns, Clears, SetsReserve, after_clearing, bytes_cleared, done, going_on, let_through, with_reserve}
use Rattle.supervisor_calls.specs.Domains.{DomainState, acted, trapped_of, verdict_in, write_verdict}
use Rattle.supervisor_calls.specs.Holdings.{are_taken_at, page_at}
use Rattle.supervisor_calls.specs.HoldingsInside.{cleared, reserve_at, run_given}
use Rattle.supervisor_calls.specs.Services.{page_release, region_in}
use Rattle.supervisor_calls.specs.Tables.{Live, TablesState, IsTables}
use Rattle.supervisor_calls.proofs.GivenLemmas.{LiesThere, lies_in_reserve, of_there}
use Rattle.supervisor_calls.proofs.LawLemmas.{own_pages_pass}
use Rattle.supervisor_calls.proofs.WhereLemmas.{memory_told}

-- what lies in the reserve lies in own pages
own_by_reserve : (stack communicate pool reserve : Bool) → reserve ≡ true → (stack || (communicate || (pool || reserve))) ≡ true
own_by_reserve true communicate pool reserve e = refl
own_by_reserve false true pool reserve e = refl
own_by_reserve false false true reserve e = refl
own_by_reserve false false false reserve e = e

module _ (domain : DomainState) (placed : All IsPlaced domain.tables.site.images) (there : domain.image < length domain.tables.site.images) (at n : ℕ) (some : 1 ≤ n) (lies : LiesThere (region_in domain) domain.tables.pages at n) where
  not_device : is_device_byte at ≡ false
  not_device = memory_told domain.tables.pages at n lies.memory some

  decided_home : verdict_in domain kinds.Memory at n rights.Write ≡ Pass whys.Home
  decided_home =
      of_there (verdict_in domain kinds.Memory at n rights.Write ≡ Pass whys.Home) domain.tables.site.images domain.image there
      (λ (found : PlacedImage) is.
      let P : Option PlacedImage → Type 0 =
      λ f. encloses (reserve_of (option_map_or (λ (p : PlacedImage). p.region) f (record { base = 0; pages = 0 }))) (units_from at n) ≡ true in
      let inside : encloses (reserve_of found.region) (units_from at n) ≡ true = subst P is lies.own in
      own_pages_pass domain.tables.site domain.image found at n rights.Write (trapped_of domain) placed is some (λ e. absurd cc)
      (own_by_reserve (encloses (stack_of found.region) (units_from at n)) (encloses (communicate_page_of found.region) (units_from at n))
      (encloses (pool_of found.region) (units_from at n)) (encloses (reserve_of found.region) (units_from at n)) inside))

  may_write : write_verdict domain kinds.Memory at n ≡ Pass whys.Home
  may_write = ap (with_quota kinds.Memory at domain.records) decided_home ∙ rw not_device refl

  clears : bytes_cleared at n domain ≡ (Ok tt, after_clearing at n domain)
  clears =
      ap (λ (v : Verdict). let_through v (denial_of kinds.Memory rights.Write at n) tt (after_clearing at n domain) domain) may_write

  after_is : after_clearing at n domain ≡ record domain { tables = cleared at n domain.tables }
  after_is =
      let is : with_bytes at (zeros n) domain.tables.live
      ≡ record domain.tables.live { memory = overwritten domain.tables.live.memory (at - 0x80000000) (zeros n) } = rw not_device refl in
      ap (λ (live : Live). acted domain (record { live = live; records = domain.records })) is

-- what the deed does where the pages are taken, and where they aren't
release_by : List Bool → ℕ → ℕ → ℕ → Bool → Deed
release_by reserve base address n taken =
    if taken then Clears address (4096 * n) (SetsReserve (with_run false (page_at base address) n reserve) (Returns success)) else Returns not_found

module _ (domain : DomainState) (keeps : IsTables domain.tables) (placed : All IsPlaced domain.tables.site.images) (there : domain.image < length domain.tables.site.images) (base address n : ℕ) (begins : base ≡ (reserve_of (region_in domain)).base) (some : 1 ≤ n) where
  abbrev reserve : List Bool
  reserve = reserve_at domain.image domain.tables

  releases : (taken answer : Bool) (new : TablesState) → are_taken_at base reserve address n ≡ taken
      → Answers (run_given domain.image base address n taken domain.tables) answer new
      → Answers (done (release_by reserve base address n taken) domain) (Status (if answer then success else not_found)) (record domain { tables = new })
  unfolding release_by
  releases true answer new is gave =
      let lies : LiesThere (region_in domain) domain.tables.pages address (4096 * n) =
      lies_in_reserve domain.tables keeps placed domain.image there base address n begins is in
      let more : 1 ≤ 4096 * n = omega (arith, some) in
      let left : List Bool = with_run false (page_at base address) n reserve in
      let next : DomainState → Served × DomainState = λ d. done (SetsReserve left (Returns success)) d in
      let made : done (release_by reserve base address n true) domain ≡ (Status success, with_reserve left (record domain { tables = cleared address (4096 * n) domain.tables })) =
      ap (λ (r : Result (Unit {0}) Served × DomainState). going_on r (λ value d. next d)) (clears domain placed there address (4096 * n) more lies)
      ∙ ap next (after_is domain placed there address (4096 * n) more lies) in
      let P : Served × DomainState → Type 0 = λ told. Answers told (Status (if answer then success else not_found)) (record domain { tables = new }) in
      subst P (sym made) (ap (λ (b : Bool). Status (if b then success else not_found)) gave.0, ap (λ (t : TablesState). record domain { tables = t }) gave.1)
  releases false answer new is gave =
      (ap (λ (b : Bool). Status (if b then success else not_found)) gave.0, ap (λ (t : TablesState). record domain { tables = t }) gave.1)

  module _ (aligned : address % 4096 ≡ 0) where
    -- the service's deed is that one
    same_deed : done (page_release (region_in domain) address n) domain ≡ done (release_by reserve base address n (are_taken_at base reserve address n)) domain
    unfolding release_by
    same_deed =
        let first : eqb n 0 ≡ false = grind (arith, nat_tests, some) in
        let second : eqb (address % 4096) 0 ≡ true = grind (arith, nat_tests, aligned) in
        let by : ((n == 0) || not (address % 4096 == 0)) ≡ false = rw first (rw second refl) in
        rw by
        (ap (λ (b : ℕ). done (release_by reserve b address n (are_taken_at b reserve address n)) domain) (sym begins))

    released : (answer : Bool) (new : TablesState)
        → Answers (run_given domain.image base address n (are_taken_at base reserve address n) domain.tables) answer new
        → Answers (done (page_release (region_in domain) address n) domain) (Status (if answer then success else not_found)) (record domain { tables = new })
    released answer new gave =
        let P : Served × DomainState → Type 0 = λ told. Answers told (Status (if answer then success else not_found)) (record domain { tables = new }) in
        subst P (sym same_deed) (releases (are_taken_at base reserve address n) answer new refl gave)

-- the domain is seen in two ways
pub pages_are_released : (seen now : DomainState) → seen ≡ now → IsTables seen.tables → All IsPlaced seen.tables.site.images
    → seen.image < length seen.tables.site.images → (region : Region) (reserve : Range) (address n : ℕ) → region ≡ region_in now
    → reserve ≡ reserve_of region → 1 ≤ n → address % 4096 ≡ 0 → (answer : Bool) (new : TablesState)
    → Answers (run_given seen.image reserve.base address n (are_taken_at reserve.base (reserve_at seen.image seen.tables) address n) seen.tables) answer new
    → Answers (done (page_release (region_in now) address n) now) (Status (if answer then success else not_found)) (record seen { tables = new })
pages_are_released seen now same keeps placed there region reserve address n is begins some aligned answer new gave =
    let base : reserve.base ≡ (reserve_of (region_in seen)).base =
    ap (λ (r : Range). r.base) begins ∙ ap (λ (r : Region). (reserve_of r).base) is ∙ ap (λ (d : DomainState). (reserve_of (region_in d)).base) (sym same) in
    let Q : DomainState → Type 0 =
    λ d. Answers (done (page_release (region_in d) address n) d) (Status (if answer then success else not_found)) (record seen { tables = new }) in
    subst Q same (released seen keeps placed there reserve.base address n base some aligned answer new gave)
