use Rattle.std.proofs.Common.{sym}
use Rattle.image_groups.specs.ClosedInside.{is_alike_with}
use Rattle.image_groups.specs.Groups.{group_of}
use Rattle.mm_groups.proofs.WalkLemmas.{all_failed, all_on}
use Rattle.mm_groups.proofs.closed_group.is_alike_with_all.Goals as goal

pub returns-then-not-are_alike : goal.returns-then-not-are_alike
returns-then-not-are_alike c =
    all_failed (is_alike_with (group_of c.args.group.now) c.args.handler.now) c.args.core.now.site.handlers c.loop-k.k _ c.loop-k.invariant
    c.in-Some.other c.are_alike.result (sym c.in-Some.ensures) c.are_alike.ensures c.if-not-are_alike.true

pub loop-k-preserved : goal.loop-k-preserved
loop-k-preserved c =
    all_on (is_alike_with (group_of c.args.group.now) c.args.handler.now) c.args.core.now.site.handlers c.loop-k.k _ c.loop-k.invariant
    c.in-Some.other c.are_alike.result (sym c.in-Some.ensures) c.are_alike.ensures c.if-not-are_alike.false
