use Rattle.std.proofs.Common.{sym, arith}
use Rattle.pe_loader.specs.ReadingInside.{form_in}
use Rattle.pe_loader.proofs.BlockLemmas.{walked_more, walked_all, size_within}
use Rattle.pe_loader.proofs.relocations.Relocations.pass_through.Goals as goal

pub loop-head-smaller : goal.loop-head-smaller
loop-head-smaller c =
    let self = c.args.self.now in
    let within = size_within (form_in c.args.bytes.now self.layout) self.layout.size self.directory c.loop-head.at (sym c.if-not-block_passes.ensures.passes) in
    let size = c.in-Some.ensures.head.size in
    omega (arith, within.0, within.1, size)

pub loop-head-preserved : goal.loop-head-preserved
loop-head-preserved c =
    let self = c.args.self.now in
    let form = form_in c.args.bytes.now self.layout in
    let passes = sym c.if-not-block_passes.ensures.passes in
    let within = size_within form self.layout.size self.directory c.loop-head.at passes in
    let size = c.in-Some.ensures.head.size in
    record {
      walked = walked_more form self.layout.size self.directory c.loop-head.at c.in-Some.head c.loop-head.invariant.walked c.in-Some.ensures.head passes;
      near = omega (arith, within.1, size);
      ready = c.if-not-block_passes.ensures.ready;
    }

pub returns-clause-passes : goal.returns-clause-passes
returns-clause-passes c =
    let self = c.args.self.now in
    walked_all (form_in c.args.bytes.now self.layout) self.layout.size self.directory c.loop-head.at c.requires.fits c.loop-head.invariant.walked c.in_default.ensures.head
