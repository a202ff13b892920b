use Rattle.file_words.proofs.CatalogLawLemmas.{catalog_is_there, one_catalog}
use Rattle.file_words.proofs.laws.one_catalog.Goals as goal

pub returns : goal.returns
returns c = record { some = catalog_is_there; one = one_catalog }
