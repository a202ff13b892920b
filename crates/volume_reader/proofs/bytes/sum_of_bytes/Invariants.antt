use Rattle.std.proofs.Common.{◌≡◌, ◌%◌, sum, take}
use Rattle.volume_reader.proofs.bytes.sum_of_bytes.Given as goal

abbrev pub invariant-loop-byte : goal.invariant-loop-byte
invariant-loop-byte l = l.total ≡ sum (take l.byte-index l.bytes) % 256
