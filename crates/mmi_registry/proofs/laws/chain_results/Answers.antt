use Rattle.mmi_registry.proofs.ChainLemmas.{root_comes_to_best, guid_comes_to_first}
use Rattle.mmi_registry.proofs.laws.chain_results.Goals as goal

pub returns-clause-root : goal.returns-clause-root
returns-clause-root c = root_comes_to_best

pub returns-clause-guid : goal.returns-clause-guid
returns-clause-guid c = guid_comes_to_first
