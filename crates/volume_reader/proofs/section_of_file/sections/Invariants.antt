use Rattle.std.proofs.Common.{◌≡◌, ◌≤◌, ◌-◌}
use Rattle.volume_reader.specs.Sections.{body_of}
use Rattle.volume_reader.proofs.SectionNumberLemmas.{Skipped}
use Rattle.volume_reader.proofs.section_of_file.sections.Given as goal

abbrev pub invariant-loop-before : goal.invariant-loop-before
invariant-loop-before l = record {
  body : l.walk.body ≡ body_of l.bytes l.file;
  begin : l.walk.begin ≡ l.file.body_at;
  skipped : Skipped l.walk l.before;
  within : l.before ≤ l.index;
}

abbrev pub decreases-loop-before : goal.decreases-loop-before
decreases-loop-before l = l.index - l.before
