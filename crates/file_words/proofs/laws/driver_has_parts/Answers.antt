use Rattle.file_words.proofs.CatalogLawLemmas.{driver_has_parts}
use Rattle.file_words.proofs.laws.driver_has_parts.Goals as goal

pub returns : goal.returns
returns c = driver_has_parts
