use Rattle.file_words.proofs.CatalogLawLemmas.{one_policy}
use Rattle.file_words.proofs.laws.one_policy.Goals as goal

pub returns : goal.returns
returns c = one_policy
