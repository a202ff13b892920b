use Rattle.ebc_decode.proofs.DecodingLemmas.{begun_is, begun_of}
use Rattle.ebc_decode.proofs.laws.decoding.Goals as goal

pub returns-clause-found : goal.returns-clause-found
returns-clause-found c = begun_is

pub returns-clause-only : goal.returns-clause-only
returns-clause-only c = begun_of
