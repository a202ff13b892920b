use Rattle.std.proofs.Common.{arith}
use Rattle.mm_groups.proofs.LoneLemmas.{told_flags}
use Rattle.mm_groups.proofs.lone_images.each_alone_closed.Goals as goal

pub returns : goal.returns
returns c =
    told_flags c.args.core.now.site c.in_ok-flags.flags.items c.as_mut_slice-2.result.now c.lower_open.new.flags c.from_vec.result
    c.images-images.result c.in_ok-flags.flags.len c.images-images.ensures.value (c.in_ok-flags.ensures.items_if_clones_equal (λ y e. e))
    c.as_mut_slice-2.ensures.value (omega arith) c.lower_open.ensures c.from_vec.ensures
