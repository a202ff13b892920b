use Rattle.std.proofs.Common.{◌≡◌, length, take}
use Rattle.ebc_decode.proofs.reading.padded.Given as goal

abbrev pub invariant-loop-i : goal.invariant-loop-i
invariant-loop-i l = (length l.all ≡ 18) × (take l.i l.all ≡ take l.i l.bytes)
