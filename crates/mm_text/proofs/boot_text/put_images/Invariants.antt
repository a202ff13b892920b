use Rattle.std.proofs.Common.{◌≡◌, ◌++◌, drop}
use Rattle.mm_text.specs.BootLines.{images_lines}
use Rattle.mm_text.proofs.boot_text.put_images.Given as goal

-- the text so far, with the lines of the images that are left, is the whole text
abbrev pub invariant-loop-k : goal.invariant-loop-k
invariant-loop-k l = l.page ++ images_lines l.k (drop l.k l.names) (drop l.k l.closed) ≡ l.fn.page ++ images_lines 0 l.names l.closed
