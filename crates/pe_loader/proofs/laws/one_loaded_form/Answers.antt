use Rattle.pe_loader.proofs.LoadedLemmas.{loaded_is_there, one_loaded_form, loaded_has_its_size}
use Rattle.pe_loader.proofs.laws.one_loaded_form.Goals as goal

pub returns : goal.returns
returns c = record { some = loaded_is_there; one = one_loaded_form; size = loaded_has_its_size }
