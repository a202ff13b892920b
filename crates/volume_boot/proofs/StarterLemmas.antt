-- What the start of a driver makes of a starter.
use Rattle.std.proofs.Common.{◌≡◌, ℕ, zero, suc, ◌<◌, List, [], ◌∷◌, ◌++◌, map, length, get_or, true, nat_lt, arith, refl, sym, ap, ◌∙◌, subst, Option, Some, None, OnOk, Result, Ok, Err}
use Rattle.std.specs.List.{slice_get, All}
use Rattle.std.specs.Option.{option_map, option_map_or}
use Rattle.std.proofs.lemmas.Bool.Decides.{nat_tests}
use Rattle.std.proofs.lemmas.List.Elements.{All-head, All-tail}
use Rattle.std.proofs.lemmas.Option.{slice_get-get_or, slice_get-map}
use Rattle.driver_start.specs.Forms.{loadable_of}
use Rattle.driver_start.specs.Hosts.{HostState}
use Rattle.driver_start.specs.Starts.{DriverState, Loadable, started}
use Rattle.driver_start.specs.declared.record.StartRecord.{StartRecord}
use Rattle.driver_start.specs.declared.starting.StartEnd.{StartEnd}
use Rattle.mm_base.specs.Records.{RecordsState}
use Rattle.mm_base.specs.declared.guid.Guid.{Guid}
use Rattle.volume_boot.specs.Boots.{BootState, record_of, start_of, with_start}
use Rattle.volume_boot.specs.BootsInside.{IsSound, StarterState, after_start, boot_with}

-- a starter of these drivers with a boot
abbrev starter_with : List DriverState → Option BootState → StarterState
starter_with drivers boot = record { drivers = drivers; boot = boot }

-- a boot whose last start left this
abbrev boot_after : List StartRecord → Guid → ℕ → (StartEnd × RecordsState) × HostState → BootState
boot_after starts name round ran = record { host = ran.1; starts = starts ++ record_of name round ran.0 ∷ [] }

name_is : (driver : DriverState) → (loadable_of driver).name ≡ driver.name
unfolding loadable_of
name_is driver = refl

-- no driver has this number
pub none_started : (drivers : List DriverState) (boot : Option BootState) (number round : ℕ)
    → slice_get drivers number ≡ None
    → starter_with drivers boot ≡ after_start (starter_with drivers boot) number round
none_started drivers None number round none = refl
none_started drivers (Some boot) number round none =
    let gone : slice_get (map loadable_of drivers) number ≡ None = slice_get-map loadable_of drivers number ∙ ap (option_map loadable_of) none in
    ap (λ found. starter_with drivers (Some (option_map_or (with_start round boot) found boot))) (sym gone)

-- the driver of this number is started
pub one_started : (drivers : List DriverState) (host : HostState) (starts : List StartRecord) (number round : ℕ) (driver : DriverState)
    → slice_get drivers number ≡ Some driver
    → (after : HostState) (ended : StartEnd) (records : RecordsState)
    → ((ended, records), after) ≡ started (loadable_of driver) host
    → starter_with drivers (boot_with (Some after) (starts ++ record_of driver.name round (ended, records) ∷ []))
    ≡ after_start (starter_with drivers (boot_with (Some host) starts)) number round
one_started drivers host starts number round driver there after ended records is =
    let found : slice_get (map loadable_of drivers) number ≡ Some (loadable_of driver) =
    slice_get-map loadable_of drivers number ∙ ap (option_map loadable_of) there in
    let before : BootState = record { host = host; starts = starts } in
    let ran = started (loadable_of driver) host in
    ap (λ ran. starter_with drivers (Some (boot_after starts driver.name round ran))) is
    ∙ ap (λ name. starter_with drivers (Some (boot_after starts name round ran))) (sym (name_is driver))
    ∙ ap (λ found. starter_with drivers (Some (option_map_or (with_start round before) found before))) (sym found)

-- the start of a driver, and its record put behind those of earlier starts
pub started_then : {A E : Type 0} (before : StarterState) (drivers : List DriverState) (was : Option HostState) (starts : List StartRecord)
    → starter_with drivers (boot_with was starts) ≡ before
    → (host : HostState) → was ≡ Some host
    → (number round : ℕ) (driver : DriverState) → slice_get drivers number ≡ Some driver
    → (after : HostState) (ended : StartEnd) (records : RecordsState) → ((ended, records), after) ≡ started (loadable_of driver) host
    → (made : StartRecord) → made ≡ record_of driver.name round (ended, records)
    → (result : Result A E) (more : List StartRecord) → OnOk result (more ≡ starts ++ made ∷ [])
    → OnOk result (starter_with drivers (boot_with (Some after) more) ≡ after_start before number round)
started_then before drivers was starts view host there number round driver found after ended records is made made_is (Ok done) more pushed =
    ap (λ (s : List StartRecord). starter_with drivers (boot_with (Some after) s)) (pushed ∙ ap (λ (m : StartRecord). starts ++ m ∷ []) made_is)
    ∙ one_started drivers host starts number round driver found after ended records is
    ∙ ap (λ (b : StarterState). after_start b number round)
    (ap (λ (h : Option HostState). starter_with drivers (boot_with h starts)) (sym there) ∙ view)
started_then before drivers was starts view host there number round driver found after ended records is made made_is (Err refused) more pushed = tt

-- a driver of some that are all sound is sound
pub sound_at : (drivers : List DriverState) (number : ℕ) (driver : DriverState) → All IsSound drivers → slice_get drivers number ≡ Some driver
    → IsSound driver
sound_at [] number driver all there = absurd (let e : None ≡ Some driver = there in cc)
sound_at (one ∷ drivers) zero driver all there =
    let e : Some one ≡ Some driver = there in
    let same : one ≡ driver = cc in
    subst IsSound same (All-head IsSound one drivers all)
sound_at (one ∷ drivers) (suc number) driver all there = sound_at drivers number driver (All-tail IsSound one drivers all) there

-- a driver that is found by its number
pub found_at : (drivers : List DriverState) (number : ℕ) (driver : DriverState) → true ≡ nat_lt number (length drivers)
    → driver ≡ get_or drivers number driver
    → slice_get drivers number ≡ Some driver
found_at drivers number driver test is =
    let less : number < length drivers = grind (arith, nat_tests) in
    slice_get-get_or drivers number driver less ∙ ap Some (sym is)
