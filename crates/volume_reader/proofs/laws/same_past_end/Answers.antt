use Rattle.volume_reader.proofs.FrontLemmas.{same_past_end, same_with_more, same_before_cut}
use Rattle.volume_reader.proofs.laws.same_past_end.Goals as goal

pub returns : goal.returns
returns c = record { cut = same_past_end; added = same_with_more; before_cut = same_before_cut }
