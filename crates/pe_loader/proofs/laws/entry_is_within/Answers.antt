use Rattle.pe_loader.proofs.EntryLemmas.{entry_is_code, entry_is_within}
use Rattle.pe_loader.proofs.laws.entry_is_within.Goals as goal

pub returns : goal.returns
returns c = record { code = entry_is_code; native = entry_is_within }
