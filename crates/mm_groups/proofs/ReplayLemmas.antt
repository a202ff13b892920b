-- Lists of entries for a closed group: erasing and projecting once is enough, and the shares go along.
use Rattle.std.proofs.Common.{◌≡◌, ℕ, ◌+◌, Bool, true, false, if◌then◌else◌, List, [], ◌∷◌, map, refl, sym, ap, ◌∙◌, subst}
use Rattle.image_groups.proofs.FactLemmas.{closed_groups_have_facts}
use Rattle.image_groups.proofs.LiveLemmas.{erased_twice}
use Rattle.image_groups.proofs.MaskLemmas.{length-masked, masked_same, masked_twice}
use Rattle.image_groups.specs.Erasing.{erase, projected_registers, trapped_in}
use Rattle.image_groups.specs.Groups.{Group, granted, is_register_granted}
use Rattle.image_groups.specs.Laws.{Facts}
use Rattle.image_groups.specs.RunLaws.{IsWhole}
use Rattle.mm_base.specs.Replay.{outcomes}
use Rattle.mm_base.specs.declared.access.Kind.TheVariants.{Memory, Io, Msr}
use Rattle.mm_base.specs.declared.cells.Saved.{Saved}
use Rattle.mm_base.specs.declared.entry.Request.{Request}
use Rattle.mm_core.specs.CoreState.{CoreState, Site}
use Rattle.mm_core.specs.EntryStep.{core_step, shape_of}
use Rattle.mm_groups.specs.Closed.{IsClosedIn}
use Rattle.mm_groups.specs.EntryLaws.{IsSound, ShareAlike, SharesStandAlone, shares_of}
use Rattle.mm_groups.specs.Share.{Share, erased_core, is_addressed, projected, share_of}
use Rattle.mm_groups.proofs.CoreLemmas.{core_at, entries_share_alike, steps_stay_sound}

module _ (group : Group) (site : Site) (facts : Facts group site.supervised) where
  registers_twice : (saved : Saved)
      → projected_registers group site.supervised (projected_registers group site.supervised saved) ≡ projected_registers group site.supervised saved
  registers_twice saved =
      ap (λ (registers : List ℕ). record { 0 = registers })
      (masked_same 0 (is_register_granted group site.supervised (trapped_in (projected_registers group site.supervised saved)))
      (is_register_granted group site.supervised (trapped_in saved)) (projected_registers group site.supervised saved).0
      (λ register. facts.same_registers saved register)
      ∙ masked_twice 0 (is_register_granted group site.supervised (trapped_in saved)) saved.0)

  abbrev told : Bool → Request → Request
  told b request =
      if b
      then record {
        lane = request.lane;
        length = request.length;
        bytes = request.bytes;
        saved = projected_registers group site.supervised request.saved;
      }
      else record { lane = 0; length = 0; bytes = []; saved = projected_registers group site.supervised request.saved }

  projected_twice : (request : Request) → projected group site (projected group site request) ≡ projected group site request
  projected_twice request = by_address (is_addressed group site (shape_of site request)) refl
    where
      by_address : (b : Bool) → is_addressed group site (shape_of site request) ≡ b → projected group site (told b request) ≡ told b request
      by_address true is =
          ap (λ (b : Bool). told b (told true request)) is
          ∙ ap (λ (saved : Saved). record { lane = request.lane; length = request.length; bytes = request.bytes; saved = saved })
          (registers_twice request.saved)
      by_address false is =
          ap (λ (saved : Saved). record { lane = 0; length = 0; bytes = []; saved = saved }) (registers_twice request.saved)

-- what is left of a sound core is sound
erased_sound : (group : Group) (core : CoreState) → IsSound core → IsSound (erased_core group core)
erased_sound group core sound = record {
  placed = sound.placed;
  numbered = sound.numbered;
  whole = λ number image is. left (sound.whole number image is);
}
  where
    left : IsWhole core.live → IsWhole (erase group core.site.supervised core.live)
    left whole = record {
      memory = length-masked 0 (λ k. granted group core.site.supervised Memory (0x80000000 + k)) core.live.memory ∙ whole.memory;
      cells = record {
        ports = length-masked 0 (λ k. granted group core.site.supervised Io k) core.live.platform.ports ∙ whole.cells.ports;
        device = length-masked 0 (λ k. granted group core.site.supervised Memory (0xfe000000 + k)) core.live.platform.device ∙ whole.cells.device;
        msrs = length-masked 0 (λ k. granted group core.site.supervised Msr k) core.live.platform.msrs ∙ whole.cells.msrs;
        upper_msrs =
            length-masked 0 (λ k. granted group core.site.supervised Msr (0xc0000000 + k)) core.live.platform.upper_msrs ∙ whole.cells.upper_msrs;
      };
    }

module _ (group : Group) (site : Site) where
  -- the site stays
  site_stays : (core : CoreState) (request : Request) → (core_step core request).1.site ≡ core.site
  unfolding core_step
  site_stays core request = refl

  abbrev shares : CoreState → List Request → List Share
  shares core requests = shares_of group site (outcomes core_step core requests)

  go_along : (requests : List Request) (core other : CoreState) → core.site ≡ site → IsSound core → IsSound other → IsClosedIn group site
      → erased_core group core ≡ erased_core group other
      → shares core requests ≡ shares other (map (projected group site) requests)
  go_along [] core other is sound whole closed same = refl
  go_along (request ∷ requests) core other is sound whole closed same =
      let here : IsClosedIn group core.site = subst (λ s. IsClosedIn group s) (sym is) closed in
      let facts = closed_groups_have_facts group core.site.supervised core.site.handlers sound.placed here in
      let twice : projected group core.site request
      ≡ projected group core.site (projected group core.site request) = sym (projected_twice group core.site facts request) in
      let asked : projected group core.site request ≡ projected group core.site (projected group site request) =
      subst (λ s. projected group core.site request ≡ projected group core.site (projected group s request)) is twice in
      let alike : ShareAlike group core other request (projected group site request) =
      entries_share_alike group core other request (projected group site request) sound whole here (record { cores = same; requests = asked }) in
      let share : share_of group site (core_step core request).0 ≡ share_of group site (core_step other (projected group site request)).0 =
      subst (λ s. share_of group s (core_step core request).0 ≡ share_of group s (core_step other (projected group site request)).0) is alike.share in
      let rest = go_along requests (core_step core request).1 (core_step other (projected group site request)).1 (site_stays core request ∙ is)
      (steps_stay_sound core request sound) (steps_stay_sound other (projected group site request) whole) closed alike.cores in
      λ i. share i ∷ rest i

pub shares_stand_alone : SharesStandAlone
shares_stand_alone group core requests sound closed =
    go_along group core.site requests core (erased_core group core) refl sound (erased_sound group core sound) closed
    (ap (core_at core.site) (sym (erased_twice group core.site.supervised core.live)))
