use Rattle.pe_loader.proofs.SectionLemmas.{overlap_is_a_byte}
use Rattle.pe_loader.proofs.laws.overlap_is_a_byte.Goals as goal

pub returns : goal.returns
returns c = overlap_is_a_byte
