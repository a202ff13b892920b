-- Rounds over the states of a starter are those over the boots in them.
use Rattle.std.proofs.Common.{◌≡◌, ℕ, zero, suc, ◌+◌, Bool, List, [], ◌∷◌, ◌++◌, refl, sym, ap, ◌∙◌, subst, map, Option, Some, None}
use Rattle.dispatcher.specs.Rounds.{after_starts, all_starts, round, rounds, rounds_from, starts_from, starts_in, up_to_empty}
use Rattle.dispatcher.specs.declared.driver.Driver.{Driver}
use Rattle.dispatcher.specs.declared.driver.Started.{Started}
use Rattle.driver_start.specs.Forms.{loadable_of}
use Rattle.driver_start.specs.Hosts.{HostState}
use Rattle.driver_start.specs.Starts.{DriverState}
use Rattle.driver_start.specs.declared.record.StartRecord.{StartRecord}
use Rattle.mm_base.specs.declared.guid.Guid.{Guid}
use Rattle.supervisor_calls.specs.Tables.{TablesState}
use Rattle.volume_boot.specs.Boots.{BootOutcome, BootState, boot_from, is_installed, locked, start_of, waiting_of}
use Rattle.volume_boot.specs.BootsInside.{StarterState, after_start, is_known}

module _ {S T : Type 0} (into : S → T) (installed : S → Guid → Bool) (known : T → Guid → Bool) (start : S → ℕ → ℕ → S) (after : T → ℕ → ℕ → T)
    (same_start : (s : S) (number round : ℕ) → after (into s) number round ≡ into (start s number round))
    (same_installed : (s : S) → known (into s) ≡ installed s) where
  pub starts_into : (starts : List Started) (s : S) → after_starts after starts (into s) ≡ into (after_starts start starts s)
  starts_into [] s = refl
  starts_into (one ∷ starts) s =
      ap (λ t. after_starts after starts t) (same_start s one.index one.round) ∙ starts_into starts (start s one.index one.round)

  rounds_into : (drivers : List Driver) (most number : ℕ) (done : List Driver) (s : S)
      → rounds_from known after drivers most number done (into s) ≡ rounds_from installed start drivers most number done s
  rounds_into drivers zero number done s = refl
  rounds_into drivers (suc most) number done s =
      let scheduled : List Driver = round (installed s) drivers done in
      let P : (Guid → Bool) → Type 0 = λ f.
      up_to_empty (round f drivers done)
      (rounds_from known after drivers most (number + 1) (done ++ round f drivers done)
      (after_starts after (starts_in number (round f drivers done)) (into s)))
      ≡ rounds_from installed start drivers (suc most) number done s in
      subst P (sym (same_installed s))
      (ap (λ later. up_to_empty scheduled later)
      (ap (λ t. rounds_from known after drivers most (number + 1) (done ++ scheduled) t) (starts_into (starts_in number scheduled) s)
      ∙ rounds_into drivers most (number + 1) (done ++ scheduled) (after_starts start (starts_in number scheduled) s)))

  pub all_into : (drivers : List Driver) (s : S) → all_starts known after drivers (into s) ≡ all_starts installed start drivers s
  all_into drivers s = ap (λ all. starts_from 1 all) (rounds_into drivers _ 1 [] s)

module _ (drivers : List DriverState) where
  -- the state of a starter with this boot
  abbrev pub state_with : BootState → StarterState
  state_with boot = record { drivers = drivers; boot = Some boot }

  -- the start of a driver
  abbrev pub begun : BootState → ℕ → ℕ → BootState
  begun boot number round = start_of (map loadable_of drivers) boot number round

  pub all_starts_of : (scheduled : List Driver) (boot : BootState)
      → all_starts is_known after_start scheduled (state_with boot) ≡ all_starts is_installed begun scheduled boot
  all_starts_of scheduled boot = all_into state_with is_installed is_known begun after_start (λ s number round. refl) (λ s. refl) scheduled boot

  pub after_starts_of : (starts : List Started) (boot : BootState)
      → after_starts after_start starts (state_with boot) ≡ state_with (after_starts begun starts boot)
  after_starts_of starts boot = starts_into state_with is_installed is_known begun after_start (λ s number round. refl) (λ s. refl) starts boot

module _ (drivers : List DriverState) (scheduled : List Driver) (host : HostState) where
  abbrev opening : BootState
  opening = record { host = host; starts = [] }

  abbrev outcome_of : List Started → BootOutcome
  outcome_of starts =
      let last = after_starts (begun drivers) starts opening in
      record { tables = locked last.host.tables; starts = last.starts; waiting = waiting_of starts scheduled }

  module _ (before : StarterState) (begins : before ≡ state_with drivers opening) (starts : List Started) (after : StarterState)
      (ends : after ≡ after_starts after_start starts before) where
    last_is : after.boot ≡ Some (after_starts (begun drivers) starts opening)
    last_is =
        ap (λ (s : StarterState). s.boot)
        (ends ∙ ap (λ (s : StarterState). after_starts after_start starts s) begins ∙ after_starts_of drivers starts opening)

    -- the host is still there
    pub not_gone : after.boot ≡ None → ⊥
    not_gone gone =
        let e : None ≡ Some (after_starts (begun drivers) starts opening) = sym gone ∙ last_is in
        cc

    -- what is handed out is what the boot comes to
    pub comes_to : starts ≡ all_starts is_known after_start scheduled before
        → (left : HostState) (records : List StartRecord) → after.boot ≡ Some (record { host = left; starts = records })
        → (tables : TablesState) → tables ≡ locked left.tables
        → (waiting : List Guid) → waiting ≡ waiting_of starts scheduled
        → (record { tables = tables; starts = records; waiting = waiting }) ≡ boot_from scheduled (map loadable_of drivers) host
    unfolding boot_from
    comes_to made left records there tables tables_are waiting waiting_is =
        let last : BootState = after_starts (begun drivers) starts opening in
        let here : BootState = record { host = left; starts = records } in
        let both : Some here ≡ Some last = sym there ∙ last_is in
        let same : here ≡ last = cc in
        let all : starts ≡ all_starts is_installed (begun drivers) scheduled opening =
        made ∙ ap (λ (s : StarterState). all_starts is_known after_start scheduled s) begins ∙ all_starts_of drivers scheduled opening in
        let tables_last : tables ≡ locked last.host.tables = tables_are ∙ ap (λ (b : BootState). locked b.host.tables) same in
        let records_last : records ≡ last.starts = ap (λ (b : BootState). b.starts) same in
        (λ i. record { tables = tables_last i; starts = records_last i; waiting = waiting_is i }) ∙ ap outcome_of all
