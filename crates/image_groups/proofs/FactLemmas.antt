-- What is known of verdicts where a group is closed.
use Rattle.std.proofs.Common.{◌≡◌, ℕ, true, List, refl}
use Rattle.mm_base.specs.Range.{Has}
use Rattle.mm_base.specs.declared.access.Kind.TheVariants as kinds
use Rattle.mm_base.specs.declared.access.Right.TheVariants.{Read, Write}
use Rattle.mm_base.specs.declared.cells.Saved.{Saved}
use Rattle.mm_base.specs.declared.handler.Handler.{Handler}
use Rattle.secure_policy.specs.Laws.{passes}
use Rattle.secure_policy.specs.Verdicts.{units_from, verdict_on}
use Rattle.supervisor_calls.specs.Accesses.{decided}
use Rattle.supervisor_calls.specs.Laws.{IsSite}
use Rattle.supervisor_calls.specs.Tables.{Site}
use Rattle.supervisor_calls.proofs.LawLemmas.{own_pages_pass, passes_at_each_unit}
use Rattle.image_groups.specs.Erasing.{projected_registers, trapped_in}
use Rattle.image_groups.specs.Groups.{Group, IsClosed, is_register_granted}
use Rattle.image_groups.specs.Laws.{ClosedGroupsHaveFacts, Facts}
use Rattle.image_groups.specs.Reach.{is_register_read}
use Rattle.image_groups.proofs.ReachLemmas.{granted-from, passes_within_reach, register-granted, whatever_trapped}

module _ (group : Group) (site : Site) (is : IsSite site) where
  same_registers : (saved : Saved) (register : ℕ)
      → is_register_granted group site (trapped_in (projected_registers group site saved)) register
      ≡ is_register_granted group site (trapped_in saved) register
  unfolding is_register_granted is_register_read decided verdict_on
  same_registers saved register = refl

  register_read : (image base n trapped unit : ℕ) → passes (decided site image kinds.Saved base n Read trapped) ≡ true
      → Has (units_from base n) unit → is_register_read site image trapped unit ≡ true
  unfolding is_register_read
  register_read image base n trapped unit pass has = passes_at_each_unit site image kinds.Saved base n Read trapped unit is has pass

  module _ (handlers : List Handler) (closed : IsClosed group site handlers) where
    facts : Facts group site
    facts = record {
      same = λ image kind base n right saved mine. whatever_trapped site image kind base n right _ _;
      same_registers = same_registers;
      within = λ image kind base n right trapped unit there mine other pass has.
          granted-from group site image there mine kind unit right
          (passes_within_reach site image kind base n right trapped unit is other has pass);
      within_registers = λ image base n trapped unit there mine pass has.
          register-granted group site image there mine trapped unit (register_read image base n trapped unit pass has);
      apart = λ image kind base n trapped unit there outside other pass has.
          closed.apart image kind unit there other outside (passes_within_reach site image kind base n Write trapped unit is other has pass);
      own_pages = λ number image at n right trapped there some other inside.
          own_pages_pass site number image at n right trapped is there some other inside;
    }

pub closed_groups_have_facts : ClosedGroupsHaveFacts
closed_groups_have_facts group site handlers is closed = facts group site is handlers closed
