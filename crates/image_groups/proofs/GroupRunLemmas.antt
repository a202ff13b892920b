-- An invocation of an image of a closed group is the same on what is left after erasing; one of an image outside changes nothing of that.
use Rattle.std.proofs.Common.{◌≡◌, ◌≢◌, ℕ, ◌≤◌, ◌<◌, Bool, true, false, List, [], length, replicate, refl, sym, ap, ◌∙◌, subst, arith}
use Rattle.ebc_machine.specs.Invocation.{entered}
use Rattle.ebc_machine.specs.Laws.{Keeps, mapped}
use Rattle.mm_base.specs.Frames.{zeros}
use Rattle.mm_base.specs.Numbers.{low_bytes}
use Rattle.mm_base.specs.declared.access.Kind.{Kind}
use Rattle.mm_base.specs.declared.access.Kind.TheVariants as kinds
use Rattle.mm_base.specs.declared.access.Right.TheVariants as rights
use Rattle.mm_memory.proofs.PageLemmas.{length-zeros}
use Rattle.mmi_registry.specs.Registry.{RegistryState}
use Rattle.pool_tree.specs.Pool.{Block}
use Rattle.protocol_db.specs.ProtocolDb.{DbState}
use Rattle.secure_policy.specs.Laws.{passes}
use Rattle.supervisor_calls.specs.Accesses.{with_bytes, with_number}
use Rattle.supervisor_calls.specs.Domains.{DomainState, fetched, read_at, target_at, trapped_of, verdict_in, written_at}
use Rattle.supervisor_calls.specs.Laws.{IsSite, along}
use Rattle.supervisor_calls.specs.Services.{domain_meaning, served_by_number}
use Rattle.supervisor_calls.specs.Tables.{Live, Site}
use Rattle.domain_runs.specs.Runs.{ending}
use Rattle.image_groups.specs.Erasing.{erase, erased_domain}
use Rattle.image_groups.specs.Groups.{Group}
use Rattle.image_groups.specs.Laws.{Facts}
use Rattle.image_groups.specs.RunLaws.{IsWhole}
use Rattle.image_groups.proofs.DomainLemmas.{Work, by_number_along, cleared-whole, erased_work, fetched_along, packed, read_along, target_along}
use Rattle.image_groups.proofs.DomainLemmas.{with_number-whole, written_along}
use Rattle.image_groups.proofs.InvocationLemmas.{CarriesWhere, run_along_where}
use Rattle.image_groups.proofs.LiveLemmas.{AreSpared, erased-ports, erased-register, erased-with_bytes, few_low}
use Rattle.image_groups.proofs.MaskLemmas.{masked-set_other}
use Rattle.image_groups.proofs.PackedLemmas.{IsAtWork, KeepsEffects, at_work}
use Rattle.image_groups.proofs.PlaceLemmas.{bytes_where, cells_there, ports_within, register_there, some_unit}
use Rattle.domain_runs.proofs.RunLemmas.{run_keeps}

module _ (site : Site) (placed : IsSite site) (registry : RegistryState) (protocols : DbState) (pages : List Bool) (image : ℕ) where
  -- what each call keeps: memory and cells are whole
  whole_kept : KeepsEffects site registry protocols pages image IsWhole
  whole_kept = record {
    write = λ work kind at n value pass whole. with_number-whole site placed registry protocols pages image work whole kind at n value pass;
    clearing = λ work at n pass whole. cleared-whole site placed registry protocols pages image work whole at n pass;
    pool = λ pool live whole. record { memory = whole.memory; cells = whole.cells };
    reserve = λ reserve live whole. record { memory = whole.memory; cells = whole.cells };
  }

  pub stays_whole : Keeps (IsAtWork site registry protocols pages image IsWhole) domain_meaning
  stays_whole = at_work site registry protocols pages image IsWhole whole_kept

module _ (group : Group) (site : Site) (placed : IsSite site) (facts : Facts group site) (registry : RegistryState) (protocols : DbState)
    (pages : List Bool) (image : ℕ) (there : image < length site.images) where
  abbrev domain : Work → DomainState
  domain = packed site registry protocols pages image

  -- ---- inside the group

  module _ (mine : group image ≡ true) where
    abbrev pub AtWork : DomainState → Type 0
    AtWork = IsAtWork site registry protocols pages image IsWhole

    pub carries : CarriesWhere AtWork (erased_domain group) domain_meaning domain_meaning
    carries = record {
      fetches = λ d at n p. subst (λ x. fetched (erased_domain group x) at n ≡ along (erased_domain group) (fetched x at n)) (sym p.1.0)
          (fetched_along group site placed facts registry protocols pages image there mine p.0 at n);
      reads = λ d at n p. subst (λ x. read_at (erased_domain group x) at n ≡ along (erased_domain group) (read_at x at n)) (sym p.1.0)
          (read_along group site placed facts registry protocols pages image there mine p.0 at n);
      writes = λ d at n value p. by_width d at n value p;
      targets = λ d at p. subst (λ x. target_at (erased_domain group x) at ≡ target_at x at) (sym p.1.0)
          (target_along group site placed facts registry protocols pages image there mine p.0 at);
      serves = λ d number stack p.
          subst (λ x. served_by_number number stack (erased_domain group x) ≡ along (erased_domain group) (served_by_number number stack x))
          (sym p.1.0)
          (by_number_along group site placed facts registry protocols pages image there mine number stack p.0 p.1.1);
    }
      where
        by_width : (d : DomainState) (at n value : ℕ) → AtWork d
            → written_at (erased_domain group d) at n value ≡ along (erased_domain group) (written_at d at n value)
        by_width d at n value p =
            subst (λ x. written_at (erased_domain group x) at n value ≡ along (erased_domain group) (written_at x at n value)) (sym p.1.0)
            (written_along group site placed facts registry protocols pages image there mine p.0 p.1.1 at n value)

    -- an invocation, its frame included, from what is left after erasing
    pub run_inside : (fuel stack address : ℕ) (arguments : List ℕ) (work : Work) → IsWhole work.live
        → ending domain_meaning fuel (entered domain_meaning stack address arguments (domain (erased_work group site work)))
        ≡ mapped (erased_domain group) (ending domain_meaning fuel (entered domain_meaning stack address arguments (domain work)))
    run_inside fuel stack address arguments work whole =
        run_along_where AtWork (erased_domain group) domain_meaning domain_meaning (stays_whole site placed registry protocols pages image) carries
        fuel stack address arguments (domain work) (work, (refl, whole))

  -- ---- outside

  module _ (other : group image ≡ false) where
    spared : (work : Work) (kind : Kind) (at n : ℕ) → kind ≢ kinds.Saved
        → passes (verdict_in (domain work) kind at n rights.Write) ≡ true → AreSpared group site kind at n
    spared work kind at n cell pass unit has = facts.apart image kind at n (trapped_of (domain work)) unit there other cell pass has

    some : (work : Work) (kind : Kind) (at n : ℕ) → passes (verdict_in (domain work) kind at n rights.Write) ≡ true → 1 ≤ n
    some work kind at n pass = some_unit site image rights.Write (trapped_of (domain work)) kind at n pass

    number_left : (work : Work) → IsWhole work.live → (kind : Kind) (at n value : ℕ) → passes (verdict_in (domain work) kind at n rights.Write) ≡ true
        → erase group site (with_number kind at n value work.live) ≡ erase group site work.live
    number_left work whole kinds.Memory at n value pass =
        erased-with_bytes group site work.live whole at n (low_bytes n value) (few_low n value) (some work kinds.Memory at n pass)
        (bytes_where (domain work) placed at n (trapped_of (domain work)) rights.Write pass)
        (spared work kinds.Memory at n (λ e. cc) pass)
    number_left work whole kinds.Io at n value pass =
        erased-ports group site work.live whole at n (low_bytes n value) (few_low n value)
        (ports_within at n (some work kinds.Io at n pass)
        (cells_there site image rights.Write (trapped_of (domain work)) kinds.Io at n (λ e. cc) pass))
        (spared work kinds.Io at n (λ e. cc) pass)
    number_left work whole kinds.Msr at n value pass =
        erased-register group site work.live at n value (some work kinds.Msr at n pass)
        (register_there at n (some work kinds.Msr at n pass)
        (cells_there site image rights.Write (trapped_of (domain work)) kinds.Msr at n (λ e. cc) pass))
        (spared work kinds.Msr at n (λ e. cc) pass)
    number_left work whole kinds.Saved at n value pass = refl

    clearing_left : (work : Work) → IsWhole work.live → (at n : ℕ) → passes (verdict_in (domain work) kinds.Memory at n rights.Write) ≡ true
        → erase group site (with_bytes at (zeros n) work.live) ≡ erase group site work.live
    clearing_left work whole at n pass =
        erased-with_bytes group site work.live whole at n (zeros n) (omega (arith, length-zeros n)) (some work kinds.Memory at n pass)
        (bytes_where (domain work) placed at n (trapped_of (domain work)) rights.Write pass)
        (spared work kinds.Memory at n (λ e. cc) pass)

    -- whole, and of this nothing is left but that
    abbrev pub Leaves : Live → Live → Type 0
    Leaves left live = IsWhole live × (erase group site live ≡ left)

    pub left_kept : (left : Live) → KeepsEffects site registry protocols pages image (Leaves left)
    left_kept left = record {
      write = λ work kind at n value pass has. (
        with_number-whole site placed registry protocols pages image work has.0 kind at n value pass,
        number_left work has.0 kind at n value pass ∙ has.1,
      );
      clearing = λ work at n pass has. (
        cleared-whole site placed registry protocols pages image work has.0 at n pass,
        clearing_left work has.0 at n pass ∙ has.1,
      );
      pool = λ pool live has. (
        record { memory = has.0.memory; cells = has.0.cells },
        ap (λ (pools : List (List Block)). record (erase group site live) { pools = pools }) (masked-set_other [] group live.pools image pool other)
            ∙ has.1,
      );
      reserve = λ reserve live has. (
        record { memory = has.0.memory; cells = has.0.cells },
        ap (λ (reserves : List (List Bool)). record (erase group site live) { reserves = reserves })
            (masked-set_other (replicate 16 false) group live.reserves image reserve other) ∙ has.1,
      );
    }

    pub run_outside : (fuel stack address : ℕ) (arguments : List ℕ) (work : Work) → IsWhole work.live
        → IsAtWork site registry protocols pages image (Leaves (erase group site work.live))
        (ending domain_meaning fuel (entered domain_meaning stack address arguments (domain work))).1
    run_outside fuel stack address arguments work whole =
        run_keeps (IsAtWork site registry protocols pages image (Leaves (erase group site work.live))) domain_meaning
        (at_work site registry protocols pages image (Leaves (erase group site work.live)) (left_kept (erase group site work.live)))
        fuel stack address arguments (domain work) (work, (refl, (whole, refl)))
