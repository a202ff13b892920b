use Rattle.std.proofs.Common.{sym, arith}
use Rattle.std.proofs.lemmas.Option.{slice_get_within}
use Rattle.image_groups.specs.ClosedInside.{is_apart_at}
use Rattle.image_groups.specs.Ends.{ends_of}
use Rattle.image_groups.specs.Groups.{group_of}
use Rattle.mm_groups.proofs.WalkLemmas.{all_ended, all_failed, all_on, past_end}
use Rattle.mm_groups.proofs.closed_group.is_apart.Goals as goal

pub returns-then-not-is_apart_at : goal.returns-then-not-is_apart_at
returns-then-not-is_apart_at c =
    all_failed (is_apart_at (group_of c.args.group.now) c.args.core.now.site.supervised c.args.kind)
    (ends_of c.args.kind c.args.core.now.site.supervised) c.loop-unit.k _ c.loop-unit.invariant c.in-Some.unit c.is_apart_at.result
    (sym c.in-Some.ensures.value) c.is_apart_at.ensures c.if-not-is_apart_at.true

pub loop-unit-preserved : goal.loop-unit-preserved
loop-unit-preserved c =
    all_on (is_apart_at (group_of c.args.group.now) c.args.core.now.site.supervised c.args.kind)
    (ends_of c.args.kind c.args.core.now.site.supervised) c.loop-unit.k _ c.loop-unit.invariant c.in-Some.unit c.is_apart_at.result
    (sym c.in-Some.ensures.value) c.is_apart_at.ensures c.if-not-is_apart_at.false

pub overflow_add-k : goal.overflow_add-k
overflow_add-k c =
    let within = slice_get_within (ends_of c.args.kind c.args.core.now.site.supervised) c.loop-unit.k c.in-Some.unit (sym c.in-Some.ensures.value) in
    omega (arith, within, c.in-Some.ensures.few)

pub loop-unit-smaller : goal.loop-unit-smaller
loop-unit-smaller c =
    let within = slice_get_within (ends_of c.args.kind c.args.core.now.site.supervised) c.loop-unit.k c.in-Some.unit (sym c.in-Some.ensures.value) in
    omega (arith, within)

pub returns : goal.returns
returns c =
    all_ended (is_apart_at (group_of c.args.group.now) c.args.core.now.site.supervised c.args.kind)
    (ends_of c.args.kind c.args.core.now.site.supervised) c.loop-unit.k _ c.loop-unit.invariant (past_end _ _ (sym c.in_default.ensures.value))
