use Rattle.std.specs.List.{filter}
use Rattle.image_table.specs.Sections.{has_bytes}
use Rattle.image_table.proofs.SectionLemmas.{IsPermutation-in_order, sections_rise}
use Rattle.image_table.proofs.laws.sections_by_address.Goals as goal

pub returns-clause-items : goal.returns-clause-items
returns-clause-items c = λ parts. IsPermutation-in_order (filter has_bytes parts)

pub returns-clause-rise : goal.returns-clause-rise
returns-clause-rise c = sections_rise
