use Rattle.std.proofs.Common.{sym, ◌∙◌}
use Rattle.image_groups.specs.Groups.{group_of}
use Rattle.image_groups.proofs.ClosedLemmas.{closed_exactly}
use Rattle.mm_groups.proofs.closed_group.is_closed.Goals as goal

pub returns : goal.returns
returns c =
    let exactly = closed_exactly (group_of c.args.group.now) c.args.core.now.site.supervised c.args.core.now.site.handlers in
    (λ holds. exactly.0 (sym c.passes.ensures ∙ holds), λ closed. c.passes.ensures ∙ exactly.1 closed)
