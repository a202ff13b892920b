use Rattle.mm_base.proofs.GuidLemmas.{guid_from_text-guid_text}
use Rattle.mm_base.proofs.laws.guid_text_round_trip.Goals as goal

pub returns : goal.returns
returns c = guid_from_text-guid_text
