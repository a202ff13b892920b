-- The laws of one entry, of whole cores.
use Rattle.std.proofs.Common.{◌≡◌, inr, ℕ, Bool, false, ◌&&◌, List, [], ◌∷◌, length, Some, refl, sym, ap, ◌∙◌, subst}
use Rattle.std.specs.List.{list_any, range_with_len, slice_index_or}
use Rattle.image_groups.proofs.FactLemmas.{closed_groups_have_facts}
use Rattle.image_groups.specs.Erasing.{erase}
use Rattle.image_groups.specs.Groups.{Group, granted, is_body_of}
use Rattle.image_groups.specs.Reach.{is_touched}
use Rattle.mm_base.specs.declared.entry.Outcome.{Outcome}
use Rattle.mm_base.specs.declared.entry.Request.{Request}
use Rattle.mm_base.specs.declared.handler.HandlerBody.{HandlerBody}
use Rattle.mm_base.specs.declared.handler.HandlerBody.TheVariants.{Version, Stub, Code}
use Rattle.mmi_registry.specs.Handlers.{chain_of}
use Rattle.mm_core.specs.CoreState.{CoreState, Site}
use Rattle.mm_core.specs.EntryStep.{core_step, entry_step}
use Rattle.supervisor_calls.specs.Tables.{Live}
use Rattle.mm_groups.specs.Closed.{IsClosedIn}
use Rattle.mm_groups.specs.EntryLaws.{AreAlike, EntriesShareAlike, IsSound, ShareAlike, StepsStaySound}
use Rattle.mm_groups.specs.Share.{erased_core, projected, share_of}
use Rattle.mm_groups.proofs.ChainLemmas.{found}
use Rattle.mm_groups.proofs.EntryLemmas.{share_alike, states_alike, step_ready}

-- the core of a site in a state
abbrev pub core_at : Site → Live → CoreState
core_at site live = record { site = site; live = live }

pub step_at : (site : Site) (live : Live) (request : Request)
    → core_step (core_at site live) request ≡ ((entry_step site live request).0, core_at site (entry_step site live request).1)
unfolding core_step
step_at site live request = refl

-- one site, two states
alike_here : (group : Group) (site : Site) (live other : Live) (request asked : Request)
    → IsSound (core_at site live) → IsSound (core_at site other) → IsClosedIn group site
    → erase group site.supervised live ≡ erase group site.supervised other
    → projected group site request ≡ projected group site asked
    → ShareAlike group (core_at site live) (core_at site other) request asked
unfolding core_step
alike_here group site live other request asked sound whole closed same is =
    let facts = closed_groups_have_facts group site.supervised site.handlers sound.placed closed in
    let founds = found site.handlers sound.numbered.rising in
    record {
      share = share_alike group site sound.placed facts closed.alike founds request asked live other sound.whole whole.whole same is;
      cores =
          ap (core_at site) (states_alike group site sound.placed facts closed.alike founds request asked live other sound.whole whole.whole same is);
    }

alike_there : (group : Group) (site place : Site) → site ≡ place → (live other : Live) (request asked : Request)
    → IsSound (core_at site live) → IsSound (core_at place other) → IsClosedIn group site
    → erase group site.supervised live ≡ erase group place.supervised other
    → projected group site request ≡ projected group site asked
    → ShareAlike group (core_at site live) (core_at place other) request asked
alike_there group site place same live other request asked sound =
    subst (λ x. IsSound (core_at x other) → IsClosedIn group site
    → erase group site.supervised live ≡ erase group x.supervised other
    → projected group site request ≡ projected group site asked
    → ShareAlike group (core_at site live) (core_at x other) request asked) same
    (λ whole closed states is. alike_here group site live other request asked sound whole closed states is)

pub entries_share_alike : EntriesShareAlike
entries_share_alike group core other request asked sound whole closed alike =
    alike_there group core.site other.site (ap (λ (c : CoreState). c.site) alike.cores) core.live other.live request asked sound whole closed
    (ap (λ (c : CoreState). c.live) alike.cores) alike.requests

-- ---- a step keeps a core sound: of no images at all a group is closed

nobody : Group
nobody = λ image. false

not_of_nobody : (body : HandlerBody) → is_body_of nobody body ≡ false
unfolding nobody
not_of_nobody Version = refl
not_of_nobody (Stub status) = refl
not_of_nobody (Code image address) = refl

nothing_granted : (images : List ℕ) (test : ℕ → Bool) → list_any (λ image. nobody image && test image) images ≡ false
unfolding nobody
nothing_granted [] test = refl
nothing_granted (image ∷ images) test = nothing_granted images test

nobody_closed : (site : Site) → IsClosedIn nobody site
unfolding granted
nobody_closed site = record {
  alike = λ guid. inr (λ k d less. not_of_nobody (slice_index_or (chain_of (Some guid) site.handlers) k d).body);
  apart = λ image kind unit there cell outside passes.
      nothing_granted (range_with_len 0 (length site.supervised.images)) (λ image. is_touched site.supervised image kind unit);
}

pub steps_stay_sound : StepsStaySound
unfolding core_step
steps_stay_sound core request sound =
    let facts = closed_groups_have_facts nobody core.site.supervised core.site.handlers sound.placed (nobody_closed core.site) in
    record {
      placed = sound.placed;
      numbered = sound.numbered;
      whole =
          step_ready nobody core.site sound.placed facts (nobody_closed core.site).alike
          (found core.site.handlers sound.numbered.rising) request core.live sound.whole;
    }

-- ---- two cores that stepped

module _ (group : Group) (left right after later : CoreState) (request asked : Request) (first second : Outcome)
    (first_is : first ≡ (core_step left request).0) (second_is : second ≡ (core_step right asked).0)
    (after_is : after ≡ (core_step left request).1) (later_is : later ≡ (core_step right asked).1) where
  pub stepped_share : IsSound left → IsSound right → IsClosedIn group left.site → AreAlike group left right request asked
      → share_of group left.site first ≡ share_of group left.site second
  stepped_share sound whole closed alike =
      ap (share_of group left.site) first_is ∙ (entries_share_alike group left right request asked sound whole closed alike).share
      ∙ ap (share_of group left.site) (sym second_is)

  pub stepped_erased : IsSound left → IsSound right → IsClosedIn group left.site → AreAlike group left right request asked
      → erased_core group after ≡ erased_core group later
  stepped_erased sound whole closed alike =
      ap (erased_core group) after_is ∙ (entries_share_alike group left right request asked sound whole closed alike).cores
      ∙ ap (erased_core group) (sym later_is)
