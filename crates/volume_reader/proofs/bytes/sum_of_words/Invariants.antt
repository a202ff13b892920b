use Rattle.std.proofs.Common.{◌≡◌, ◌+◌, ◌*◌, ◌%◌, drop}
use Rattle.volume_reader.specs.Sums.{sum_of_words}
use Rattle.volume_reader.proofs.bytes.sum_of_words.Given as goal

abbrev pub invariant-loop-place : goal.invariant-loop-place
invariant-loop-place l =
    (l.total + sum_of_words (drop (2 * l.place) l.bytes)) % 65536 ≡ sum_of_words l.bytes % 65536
