use Rattle.volume_reader.proofs.SectionLawLemmas.{walk_gives, walk_meets}
use Rattle.volume_reader.proofs.laws.walk_gives_sections.Goals as goal

pub returns : goal.returns
returns c = record { sections = walk_gives; fault = walk_meets }
