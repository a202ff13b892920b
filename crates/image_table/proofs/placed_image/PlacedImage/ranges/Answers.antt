use Rattle.std.proofs.Common.{length, ap, arith}
use Rattle.image_table.proofs.HomeLemmas.{count_of_homes, few_sections}
use Rattle.image_table.proofs.placed_image.PlacedImage.ranges.Goals as goal

pub overflow_cast-result : goal.overflow_cast-result
overflow_cast-result c = omega (arith, ap length c.as_slice-sections.ensures, few_sections c.args.self.now c.requires)

pub overflow_add-result : goal.overflow_add-result
overflow_add-result c = omega (arith, ap length c.as_slice-sections.ensures, few_sections c.args.self.now c.requires)

pub returns-clause-most : goal.returns-clause-most
returns-clause-most c = omega (arith, count_of_homes c.args.self.now, few_sections c.args.self.now c.requires)
