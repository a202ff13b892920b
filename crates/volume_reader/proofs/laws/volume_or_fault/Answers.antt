use Rattle.volume_reader.proofs.LawLemmas.{either, never_both, one_volume, one_fault}
use Rattle.volume_reader.proofs.laws.volume_or_fault.Goals as goal

pub returns : goal.returns
returns c = record {
  either = either;
  never_both = never_both;
  one_volume = one_volume;
  one_fault = one_fault;
}
