use Rattle.std.proofs.Common.{◌≡◌, ◌++◌, drop}
use Rattle.std.specs.List.{flat_map}
use Rattle.mm_text.specs.RecordLines.{denial_line}
use Rattle.mm_text.proofs.record_text.put_denials.Given as goal

-- the text so far, with the lines of the denials that are left, is the whole text
abbrev pub invariant-loop-denial : goal.invariant-loop-denial
invariant-loop-denial l =
    l.page ++ flat_map (denial_line l.spaces) (drop l.denial-index l.denials) ≡ l.fn.page ++ flat_map (denial_line l.spaces) l.denials
