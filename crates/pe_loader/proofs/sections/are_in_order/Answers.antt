use Rattle.std.proofs.Common.{◌+◌, ◌<◌, ◌≤◌, ap, arith, below_more}
use Rattle.mm_base.specs.declared.image.Part.{Part}
use Rattle.pe_loader.specs.Sections.{part_of}
use Rattle.pe_loader.proofs.sections.are_in_order.Goals as goal

pub loop-k-preserved : goal.loop-k-preserved
loop-k-preserved c =
    let bytes = c.args.bytes.now in
    let layout = c.args.layout.now in
    let k = c.loop-k.k in
    let at = ap (λ (part : Part). part.at) c.part-part.ensures in
    let long = ap (λ (part : Part). part.length) c.part-part.ensures in
    let ended = c.loop-k.invariant.ended in
    record {
      ended = below_more (λ j. (part_of bytes layout j).at + (part_of bytes layout j).length ≤ c.part-part.result.at + c.part-part.result.length) k
          (λ j h. omega (arith, ended j h)) (omega arith);
      order = λ i j earlier less.
          below_more (λ n. (i < n) → (part_of bytes layout i).at + (part_of bytes layout i).length ≤ (part_of bytes layout n).at) k
          (λ n h sooner. c.loop-k.invariant.order i n sooner h) (λ sooner. omega (arith, ended i sooner)) j less earlier;
    }

pub returns : goal.returns
returns c = λ i j earlier less. c.loop-k.invariant.order i j earlier (omega arith)
