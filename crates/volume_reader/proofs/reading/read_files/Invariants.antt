use Rattle.std.proofs.Common.{◌≤◌, ◌+◌, ◌-◌, length}
use Rattle.volume_reader.proofs.WalkLemmas.{Walked}
use Rattle.volume_reader.proofs.reading.read_files.Given as goal

abbrev pub invariant-loop-files : goal.invariant-loop-files
invariant-loop-files l = record {
  walked : Walked l.area l.first l.files l.at;
  within : l.at ≤ length l.area.bytes + 7;
}

abbrev pub decreases-loop-files : goal.decreases-loop-files
decreases-loop-files l = (length l.area.bytes + 8) - l.at
