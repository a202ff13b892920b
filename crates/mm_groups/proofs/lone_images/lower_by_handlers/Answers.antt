use Rattle.std.proofs.Common.{sym}
use Rattle.std.specs.List.{list_all}
use Rattle.image_groups.specs.ClosedInside.{is_alike_with}
use Rattle.image_groups.specs.Groups.{alone}
use Rattle.mm_groups.proofs.FlagLemmas.{over_on}
use Rattle.mm_groups.proofs.lone_images.lower_by_handlers.Goals as goal

pub loop-k-preserved : goal.loop-k-preserved
loop-k-preserved c =
    over_on (λ image handler. list_all (is_alike_with (alone image) handler) c.args.core.now.site.handlers) c.args.core.now.site.handlers
    c.loop-k.k c.in-Some.handler c.args.flags.now c.loop-k.flags c.lower_by_handler.new.flags c.loop-k.invariant (sym c.in-Some.ensures)
    c.lower_by_handler.ensures
