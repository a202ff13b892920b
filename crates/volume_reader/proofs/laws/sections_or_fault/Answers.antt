use Rattle.volume_reader.proofs.SectionLemmas.{one_list, list_or_refusal, one_refusal}
use Rattle.volume_reader.proofs.SectionLawLemmas.{either}
use Rattle.volume_reader.proofs.laws.sections_or_fault.Goals as goal

pub returns : goal.returns
returns c = record { either = either; never_both = list_or_refusal; one_list = one_list; one_fault = one_refusal }
