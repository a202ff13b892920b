use Rattle.std.proofs.Common.{◌≡◌, ◌++◌, drop}
use Rattle.mm_text.specs.VolumeLines.{files_lines}
use Rattle.mm_text.proofs.volume_text.put_files.Given as goal

-- the text so far, with the lines of the files that are left, is the whole text
abbrev pub invariant-loop-k : goal.invariant-loop-k
invariant-loop-k l = l.page ++ files_lines (drop l.k l.files) (drop l.k l.words) ≡ l.fn.page ++ files_lines l.files l.words
