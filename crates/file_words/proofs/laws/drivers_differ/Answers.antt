use Rattle.file_words.proofs.CatalogLawLemmas.{drivers_differ, started_differ}
use Rattle.file_words.proofs.laws.drivers_differ.Goals as goal

pub returns : goal.returns
returns c = record { each = drivers_differ; started = started_differ }
