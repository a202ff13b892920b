use Rattle.image_table.proofs.LawLemmas.{lie_apart, lie_in_their_region, rise}
use Rattle.image_table.proofs.laws.home_ranges_of_an_image.Goals as goal

pub returns-clause-within : goal.returns-clause-within
returns-clause-within c = lie_in_their_region

pub returns-clause-rise : goal.returns-clause-rise
returns-clause-rise c = rise

pub returns-clause-apart : goal.returns-clause-apart
returns-clause-apart c = lie_apart
