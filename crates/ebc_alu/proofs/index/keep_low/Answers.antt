use Rattle.std.proofs.Common.{◌-◌, ◌∙◌, ap, bit_and}
use Rattle.std.proofs.lemmas.Nat.{one_shl, and_mask}
use Rattle.ebc_alu.proofs.index.keep_low.Goals as goal

pub returns : goal.returns
returns c = ap (λ m. bit_and c.args.n (m - 1)) (one_shl c.args.count 64 c.requires) ∙ and_mask c.args.n c.args.count
