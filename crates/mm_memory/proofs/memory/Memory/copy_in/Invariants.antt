use Rattle.std.proofs.Common.{◌≡◌, ◌+◌, ◌≤◌, length}
use Rattle.mm_base.specs.Numbers.{overwritten}
use Rattle.mm_memory.specs.Flat.{joined, IsWhole}
use Rattle.mm_memory.proofs.memory.Memory.copy_in.Given as goal

-- Writing what is left of the bytes gives what writing all of them gives.
abbrev pub invariant-loop-rest : goal.invariant-loop-rest
invariant-loop-rest g l =
    let pages = g.F.Frames.contents l.self-inside.frames in
    record {
      whole : IsWhole pages (g.F.Frames.live l.self-inside.frames);
      live : g.F.Frames.live l.self-inside.frames ≡ l.fn.self.live;
      size : length (joined pages) ≡ length l.fn.self.bytes;
      later : l.fn.at ≤ l.from;
      place : l.from + length l.rest ≡ l.fn.at + length l.fn.bytes;
      left : overwritten (joined pages) l.from l.rest ≡ overwritten l.fn.self.bytes l.fn.at l.fn.bytes;
    }

abbrev pub decreases-loop-rest : goal.decreases-loop-rest
decreases-loop-rest g l = length l.rest
