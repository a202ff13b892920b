use Rattle.pe_loader.proofs.HomeLemmas.{plain_at_home}
use Rattle.pe_loader.proofs.laws.plain_at_home.Goals as goal

pub returns : goal.returns
returns c = plain_at_home
