use Rattle.std.proofs.Common.{◌≡◌, ◌++◌, drop}
use Rattle.std.specs.List.{flat_map}
use Rattle.mm_text.specs.RecordLines.{invocation_lines}
use Rattle.mm_text.proofs.record_text.put_invocations.Given as goal

-- the text so far, with the lines of the invocations that are left, is the whole text
abbrev pub invariant-loop-invocation : goal.invariant-loop-invocation
invariant-loop-invocation l =
    l.page ++ flat_map (invocation_lines l.word) (drop l.invocation-index l.invocations)
    ≡ l.fn.page ++ flat_map (invocation_lines l.word) l.invocations
