-- The laws of chains and of the root pass, of whole cores.
use Rattle.std.proofs.Common.{◌≡◌, false, true, None, Some, ap, subst}
use Rattle.image_groups.proofs.FactLemmas.{closed_groups_have_facts}
use Rattle.image_groups.specs.Erasing.{erase, projected_registers}
use Rattle.image_groups.specs.Groups.{Group}
use Rattle.mm_base.specs.declared.cells.Saved.{Saved}
use Rattle.mm_core.specs.CoreState.{CoreState, Site}
use Rattle.mm_core.specs.Message.{no_message}
use Rattle.mmi_registry.specs.Handlers.{chain_of}
use Rattle.supervisor_calls.specs.Tables.{Live}
use Rattle.mm_groups.specs.ChainLaws.{ChainsGoAlong, ChainsOutsideLeaveNothing, RootPassSharesAlike, RootPassesAgree, root_pass_from}
use Rattle.mm_groups.specs.Closed.{IsClosedIn}
use Rattle.mm_groups.specs.EntryLaws.{IsSound}
use Rattle.mm_groups.proofs.ChainLemmas.{chain_same, found, none_own, others_left, roots_alike}
use Rattle.mm_groups.proofs.CoreLemmas.{core_at}
use Rattle.mm_groups.proofs.EntryLemmas.{chain_founds, owners}

pub chains_go_along : ChainsGoAlong
chains_go_along group core saved guid message sound closed is =
    let site = core.site in
    let facts = closed_groups_have_facts group site.supervised site.handlers sound.placed closed in
    chain_same group site sound.placed facts saved (chain_of (Some guid) site.handlers) message core.live sound.whole
    (owners group site sound.placed facts closed.alike (found site.handlers sound.numbered.rising) guid true is)

pub chains_outside_leave_nothing : ChainsOutsideLeaveNothing
chains_outside_leave_nothing group core saved guid message sound closed is =
    let site = core.site in
    let facts = closed_groups_have_facts group site.supervised site.handlers sound.placed closed in
    let founds = found site.handlers sound.numbered.rising in
    let others = owners group site sound.placed facts closed.alike founds guid false is in
    record {
      own =
          none_own group site sound.placed facts false saved (chain_of (Some guid) site.handlers) message core.live sound.whole others
          (chain_founds group site sound.placed facts closed.alike founds (Some guid));
      state = others_left group site sound.placed facts false saved (chain_of (Some guid) site.handlers) message core.live sound.whole others;
    }

-- ---- the root pass

-- one site, two states
passes_here : (group : Group) (site : Site) (live other : Live) (saved asked : Saved)
    → IsSound (core_at site live) → IsSound (core_at site other) → IsClosedIn group site
    → erase group site.supervised live ≡ erase group site.supervised other
    → projected_registers group site.supervised saved ≡ projected_registers group site.supervised asked
    → RootPassesAgree group (core_at site live) (core_at site other)
    (root_pass_from saved (core_at site live)) (root_pass_from asked (core_at site other))
passes_here group site live other saved asked sound whole closed same registers =
    let facts = closed_groups_have_facts group site.supervised site.handlers sound.placed closed in
    let founds = found site.handlers sound.numbered.rising in
    let alike =
    roots_alike group site sound.placed facts saved asked registers (chain_of None site.handlers) no_message no_message live other
    sound.whole whole.whole same (chain_founds group site sound.placed facts closed.alike founds None) in
    record { own = alike.own; states = alike.states }

passes_there : (group : Group) (site place : Site) → site ≡ place → (live other : Live) (saved asked : Saved)
    → IsSound (core_at site live) → IsSound (core_at place other) → IsClosedIn group site
    → erase group site.supervised live ≡ erase group place.supervised other
    → projected_registers group site.supervised saved ≡ projected_registers group site.supervised asked
    → RootPassesAgree group (core_at site live) (core_at place other)
    (root_pass_from saved (core_at site live)) (root_pass_from asked (core_at place other))
passes_there group site place same live other saved asked sound =
    subst (λ x. IsSound (core_at x other) → IsClosedIn group site
    → erase group site.supervised live ≡ erase group x.supervised other
    → projected_registers group site.supervised saved ≡ projected_registers group site.supervised asked
    → RootPassesAgree group (core_at site live) (core_at x other)
    (root_pass_from saved (core_at site live)) (root_pass_from asked (core_at x other))) same
    (λ whole closed states registers. passes_here group site live other saved asked sound whole closed states registers)

pub root_pass_shares_alike : RootPassSharesAlike
root_pass_shares_alike group core other saved asked sound whole closed same registers =
    passes_there group core.site other.site (ap (λ (c : CoreState). c.site) same) core.live other.live saved asked sound whole closed
    (ap (λ (c : CoreState). c.live) same) registers
