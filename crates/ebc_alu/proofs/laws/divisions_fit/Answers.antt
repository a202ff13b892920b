use Rattle.ebc_alu.proofs.LawLemmas.{signed_divisions_fit, unsigned_divisions_fit, remainders_are_small}
use Rattle.ebc_alu.proofs.laws.divisions_fit.Goals as goal

pub returns-clause-signed : goal.returns-clause-signed
returns-clause-signed c = signed_divisions_fit

pub returns-clause-unsigned : goal.returns-clause-unsigned
returns-clause-unsigned c = unsigned_divisions_fit

pub returns-clause-small : goal.returns-clause-small
returns-clause-small c = remainders_are_small
