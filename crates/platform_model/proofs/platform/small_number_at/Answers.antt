use Rattle.std.proofs.Common.{ℕ, ◌<◌, ◌^◌, sym, subst, arith}
use Rattle.platform_model.proofs.ByteLemmas.{number_in-lt}
use Rattle.platform_model.proofs.platform.small_number_at.Goals as goal

pub returns-clause-small : goal.returns-clause-small
returns-clause-small c =
    let P : ℕ → Type 0 = λ number. number < 256 ^ c.args.n in
    subst P (sym c.number_at.ensures)
    (number_in-lt c.args.bytes.now c.args.at c.args.n (λ i. omega (arith, c.type_inv.bytes i)) c.requires.within)
