use Rattle.std.proofs.Common.{◌∷◌, ◌++◌}
use Rattle.ebc_decode.proofs.WriteLemmas.{array_bytes}
use Rattle.ebc_decode.proofs.writing.all_bytes.Goals as goal

pub returns : goal.returns
returns c =
    λ i. c.args.first ∷ c.args.second
    ∷ (array_bytes c.to_le_bytes-l.result c.args.low c.to_le_bytes-l.ensures i
    ++ array_bytes c.to_le_bytes-h.result c.args.high c.to_le_bytes-h.ensures i)
