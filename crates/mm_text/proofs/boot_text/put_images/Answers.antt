use Rattle.mm_text.proofs.PageLemmas.{images_lines-turn}
use Rattle.mm_text.proofs.boot_text.put_images.Goals as goal

pub loop-k-preserved : goal.loop-k-preserved
loop-k-preserved c =
    images_lines-turn c.args.names.now c.args.closed.now c.loop-k.k _ _ _ c.loop-k-test.true c.requires c.loop-k.invariant
    c.in_ok-put_image.ensures
