use Rattle.std.proofs.Common.{◌≡◌, ◌++◌, length}
use Rattle.hex.specs.Hex.{encode_lower}
use Rattle.mm_text.proofs.page.Page.put_hex.Given as goal

-- the text so far, with the digits of the bytes that are left, is the whole text
abbrev pub invariant-loop-left : goal.invariant-loop-left
invariant-loop-left l = l.self ++ encode_lower l.left ≡ l.fn.self ++ encode_lower l.bytes

abbrev pub decreases-loop-left : goal.decreases-loop-left
decreases-loop-left l = length l.left
