use Rattle.std.proofs.Common.{sym, arith, rules}
use Rattle.std.specs.Prelude.{nat_le}
use Rattle.std.proofs.lemmas.Iterator.{YieldsList-from_slice}
use Rattle.std.proofs.lemmas.Iterator.Search.{any_from_yields_List}
use Rattle.std.proofs.lemmas.List.Sorted.{IsPartitionPoint-from_clause, IsPartitionedBy-leb}
use Rattle.image_table.specs.HomeRanges.{grants, section_home}
use Rattle.image_table.proofs.HomeLemmas.{before_region, begins_of, near_sections}
use Rattle.image_table.proofs.placed_image.PlacedImage.sections_own.Goals as goal

pub returns-in_default : goal.returns-in_default
returns-in_default c =
    sym
    (before_region c.args.right c.args.range.now c.args.self.now.region.base c.args.self.now.sections
    (omega (arith, c.in_default.ensures)))

pub returns : goal.returns
returns c =
    near_sections c.args.right c.args.range.now c.args.self.now.region.base c.args.self.now.sections _ _ _ c.in-Some.offset _
    c.as_slice-sections.ensures c.saturating_sub.ensures c.in-Some.ensures.0 c.in-Some.ensures.1 c.requires.rising c.requires.bytes
    c.partition_point-count.ensures.bound
    (IsPartitionPoint-from_clause (λ part. nat_le part.at c.in-Some.offset) _ _ c.partition_point-count.ensures.partitioned
    (IsPartitionedBy-leb (λ part. part.at) _ c.in-Some.offset
    (begins_of c.args.self.now.sections _ c.as_slice-sections.ensures c.requires.rising))
    (λ a r q k. search rules))
    (any_from_yields_List (λ part. grants c.args.right c.args.range.now (section_home c.args.self.now.region.base part)) _ _ _
    c.any.ensures.ran (YieldsList-from_slice _ c.iter.ensures.rest) (λ x b q k. search rules))
