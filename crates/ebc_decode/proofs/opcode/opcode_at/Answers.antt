use Rattle.std.proofs.Common.{refl}
use Rattle.ebc_decode.proofs.TableLemmas.{found_some, told_at}
use Rattle.ebc_decode.proofs.opcode.opcode_at.Goals as goal

pub returns-clause-found : goal.returns-clause-found
returns-clause-found c = found_some c.args.number _ refl

pub returns-clause-only : goal.returns-clause-only
returns-clause-only c = told_at c.args.number
