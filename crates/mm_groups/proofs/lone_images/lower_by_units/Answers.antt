use Rattle.std.proofs.Common.{sym}
use Rattle.image_groups.specs.ClosedInside.{is_apart_at}
use Rattle.image_groups.specs.Ends.{ends_of}
use Rattle.image_groups.specs.Groups.{alone}
use Rattle.mm_groups.proofs.FlagLemmas.{over_ended, over_on}
use Rattle.mm_groups.proofs.LoneLemmas.{count_of_writers}
use Rattle.mm_groups.proofs.WalkLemmas.{past_end}
use Rattle.mm_groups.proofs.lone_images.lower_by_units.Goals as goal

pub loop-unit-preserved : goal.loop-unit-preserved
loop-unit-preserved c = record {
  room = count_of_writers c.args.core.now.site.supervised c.args.kind c.in-Some.unit c.find_writers.new.writers c.find_writers.ensures;
  rest =
      over_on (λ image. is_apart_at (alone image) c.args.core.now.site.supervised c.args.kind)
      (ends_of c.args.kind c.args.core.now.site.supervised) c.loop-unit.k c.in-Some.unit c.args.flags.now c.loop-unit.flags
      c.lower_by_unit.new.flags c.loop-unit.invariant.rest (sym c.in-Some.ensures.value) c.lower_by_unit.ensures;
}

pub returns-clause-after : goal.returns-clause-after
returns-clause-after c =
    over_ended (λ image. is_apart_at (alone image) c.args.core.now.site.supervised c.args.kind)
    (ends_of c.args.kind c.args.core.now.site.supervised) c.loop-unit.k c.args.flags.now c.loop-unit.flags c.loop-unit.invariant.rest
    (past_end _ _ (sym c.in_default.ensures.value))
