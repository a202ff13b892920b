use Rattle.std.proofs.Common.{◌∙◌, ap, length, arith}
use Rattle.mm_base.specs.Frames.{zeros}
use Rattle.mm_memory.proofs.PageLemmas.{length-overwritten, length-zeros}
use Rattle.mm_memory.proofs.tests.clear.Goals as goal

pub returns-then-count-at : goal.returns-then-count-at
returns-then-count-at c =
    let size = c.requires.size in
    record {
      size =
          ap length c.clear.ensures.bytes
          ∙ length-overwritten c.args.memory.now.bytes (zeros c.args.count) c.args.at
          (omega (arith, size, c.if-at-le8192.true, c.if-count-at.true, length-zeros c.args.count))
          ∙ size;
      live = c.clear.ensures.live ∙ c.requires.live;
    }
