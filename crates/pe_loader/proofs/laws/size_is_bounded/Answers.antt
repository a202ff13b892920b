use Rattle.pe_loader.proofs.EntryLemmas.{size_is_bounded}
use Rattle.pe_loader.proofs.laws.size_is_bounded.Goals as goal

pub returns : goal.returns
returns c = size_is_bounded
