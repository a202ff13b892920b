use Rattle.volume_reader.proofs.SectionNumberLemmas.{numbers_list, numbers_refusal}
use Rattle.volume_reader.proofs.laws.sections_by_number.Goals as goal

pub returns : goal.returns
returns c = record { list = numbers_list; refusal = numbers_refusal }
