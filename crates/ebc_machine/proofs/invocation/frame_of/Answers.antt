use Rattle.std.proofs.Common.{ℕ, List, sym, ap, ◌∷◌}
use Rattle.ebc_machine.proofs.EnterLemmas.{four}
use Rattle.ebc_machine.proofs.invocation.frame_of.Goals as goal

pub returns : goal.returns
returns c = ap (λ (xs : List ℕ). 0 ∷ 0 ∷ xs) (sym (four c.args.arguments.now c.told-arguments))
