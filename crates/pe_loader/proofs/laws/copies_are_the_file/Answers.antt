use Rattle.pe_loader.proofs.EntryLemmas.{copies_are_the_file}
use Rattle.pe_loader.proofs.laws.copies_are_the_file.Goals as goal

pub returns : goal.returns
returns c = λ bytes image fixups k place is h copies. copies_are_the_file bytes image fixups is k place h copies
