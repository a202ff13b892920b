use Rattle.std.proofs.Common.{◌≡◌, ◌++◌, drop}
use Rattle.std.specs.List.{flat_map}
use Rattle.mm_text.specs.RecordLines.{write_line}
use Rattle.mm_text.proofs.record_text.put_writes.Given as goal

-- the text so far, with the lines of the writes that are left, is the whole text
abbrev pub invariant-loop-write : goal.invariant-loop-write
invariant-loop-write l =
    l.page ++ flat_map (write_line l.spaces) (drop l.write-index l.writes) ≡ l.fn.page ++ flat_map (write_line l.spaces) l.writes
