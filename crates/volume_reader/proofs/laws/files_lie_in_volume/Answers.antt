use Rattle.volume_reader.proofs.FileLemmas.{volume_lies, files_lie}
use Rattle.volume_reader.proofs.laws.files_lie_in_volume.Goals as goal

pub returns : goal.returns
returns c = record { length = volume_lies; files = files_lie }
