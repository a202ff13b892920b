use Rattle.std.proofs.Common.{◌≡◌, ◌+◌, ◌-◌, length}
use Rattle.volume_reader.specs.Sections.{body_of}
use Rattle.volume_reader.proofs.SearchLemmas.{Sought}
use Rattle.volume_reader.proofs.section_search.first_of.Given as goal

abbrev pub invariant-loop-section : goal.invariant-loop-section
invariant-loop-section l = record {
  body : l.walk.body ≡ body_of l.bytes l.file;
  begin : l.walk.begin ≡ l.file.body_at;
  sought : Sought l.walk l.kind l.found;
}

abbrev pub decreases-loop-section : goal.decreases-loop-section
decreases-loop-section l = (length l.walk.body + 4) - l.walk.place
