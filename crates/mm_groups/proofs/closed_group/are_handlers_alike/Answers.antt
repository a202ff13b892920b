use Rattle.std.proofs.Common.{sym}
use Rattle.std.specs.List.{list_all}
use Rattle.image_groups.specs.ClosedInside.{is_alike_with}
use Rattle.image_groups.specs.Groups.{group_of}
use Rattle.mm_groups.proofs.WalkLemmas.{all_failed, all_on}
use Rattle.mm_groups.proofs.closed_group.are_handlers_alike.Goals as goal

pub returns-then-not-is_alike_with_all : goal.returns-then-not-is_alike_with_all
returns-then-not-is_alike_with_all c =
    all_failed (λ handler. list_all (is_alike_with (group_of c.args.group.now) handler) c.args.core.now.site.handlers)
    c.args.core.now.site.handlers c.loop-k.k _ c.loop-k.invariant c.in-Some.handler c.is_alike_with_all.result (sym c.in-Some.ensures)
    c.is_alike_with_all.ensures c.if-not-is_alike_with_all.true

pub loop-k-preserved : goal.loop-k-preserved
loop-k-preserved c =
    all_on (λ handler. list_all (is_alike_with (group_of c.args.group.now) handler) c.args.core.now.site.handlers)
    c.args.core.now.site.handlers c.loop-k.k _ c.loop-k.invariant c.in-Some.handler c.is_alike_with_all.result (sym c.in-Some.ensures)
    c.is_alike_with_all.ensures c.if-not-is_alike_with_all.false
