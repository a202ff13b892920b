use Rattle.std.proofs.Common.{refl}
use Rattle.volume_reader.proofs.PlaceLemmas.{highest_decides}
use Rattle.volume_reader.proofs.laws.highest_bit_decides.Goals as goal

pub returns : goal.returns
returns c = record { some = highest_decides; none = refl }
