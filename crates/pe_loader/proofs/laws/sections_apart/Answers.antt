use Rattle.pe_loader.proofs.ImageLemmas.{sections_lie_within, sections_lie_apart}
use Rattle.pe_loader.proofs.laws.sections_apart.Goals as goal

pub returns : goal.returns
returns c = record { within = sections_lie_within; apart = sections_lie_apart }
