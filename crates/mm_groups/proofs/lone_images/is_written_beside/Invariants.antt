use Rattle.std.proofs.Common.{◌≡◌, false, length, get_or}
use Rattle.std.specs.Prelude.{◌==◌, ◌&&◌, not}
use Rattle.std.specs.List.{list_any, range_with_len}
use Rattle.mm_groups.proofs.WalkLemmas.{any_from}
use Rattle.mm_groups.proofs.lone_images.is_written_beside.Given as goal

-- The images that are left decide as all of them do.
abbrev pub invariant-loop-image : goal.invariant-loop-image
invariant-loop-image l =
    any_from (λ image. not (l.number == image) && get_or l.writers image false) (length l.writers) l.image
    ≡ list_any (λ image. not (l.number == image) && get_or l.writers image false) (range_with_len 0 (length l.writers))
