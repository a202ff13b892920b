use Rattle.volume_reader.proofs.PlaceLemmas.{files_aligned, files_apart, files_whole}
use Rattle.volume_reader.proofs.laws.where_files_stand.Goals as goal

pub returns : goal.returns
returns c = record { aligned = files_aligned; apart = files_apart; whole = files_whole }
