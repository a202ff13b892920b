use Rattle.std.proofs.Common.{◌+◌, ◌*◌, ap}
use Rattle.mm_base.specs.declared.image.Part.{Part}
use Rattle.image_table.proofs.TestLemmas.{highest_done, lowest_done}
use Rattle.image_table.proofs.tests.sections.Goals as goal
use Rattle.image_table.proofs.tests.sections.Goals.{then-is_lowest+in_ok-push, else-is_lowest+in_ok-push-2}

pub loop-k-preserved : goal.loop-k-preserved
loop-k-preserved c =
    elim c.if-is_lowest.branch [
      | then-is_lowest+in_ok-push w ↦
          rw (w.parts-is, w.low-is, w.high-is, w.in_ok-push.ensures.ok)
          (lowest_done (512 + 16 * c.args.count) c.args.count c.loop-k.k c.loop-k.low c.loop-k.high c.loop-k.parts w.part.result
          c.loop-k-test.true c.loop-k.invariant
          (ap (λ (part : Part). part.at) w.part.ensures)
          (ap (λ (part : Part). part.length) w.part.ensures))
      | else-is_lowest+in_ok-push-2 w ↦
          rw (w.parts-is, w.low-is, w.high-is, w.in_ok-push-2.ensures.ok)
          (highest_done (512 + 16 * c.args.count) c.args.count c.loop-k.k c.loop-k.low c.loop-k.high c.loop-k.parts
          w.part-else-is_lowest.result c.loop-k-test.true c.loop-k.invariant
          (ap (λ (part : Part). part.at) w.part-else-is_lowest.ensures)
          (ap (λ (part : Part). part.length) w.part-else-is_lowest.ensures))
    ]
