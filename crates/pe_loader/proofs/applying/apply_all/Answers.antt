use Rattle.std.proofs.Common.{refl, arith}
use Rattle.pe_loader.proofs.ApplyLemmas.{applied_from, block_there, applied_to_end}
use Rattle.pe_loader.proofs.applying.apply_all.Goals as goal

pub loop-head-init : goal.loop-head-init
loop-head-init c =
    applied_from c.args.out.now c.args.directory.now c.args.difference _ c.args.out.now c.requires refl refl

pub overflow_sub-count : goal.overflow_sub-count
overflow_sub-count c =
    let there = block_there c.args.out.now c.args.directory.now c.args.difference c.loop-head.at c.loop-head.out c.in-Some.head c.loop-head.invariant c.in-Some.ensures in
    omega (arith, there.least)

pub apply_entries-requires : goal.apply_entries-requires
apply_entries-requires c =
    (c.args.directory.now, (block_there c.args.out.now c.args.directory.now c.args.difference c.loop-head.at c.loop-head.out c.in-Some.head c.loop-head.invariant c.in-Some.ensures).entries)

pub loop-head-smaller : goal.loop-head-smaller
loop-head-smaller c =
    let there = block_there c.args.out.now c.args.directory.now c.args.difference c.loop-head.at c.loop-head.out c.in-Some.head c.loop-head.invariant c.in-Some.ensures in
    omega (arith, there.least, there.within)

pub loop-head-preserved : goal.loop-head-preserved
loop-head-preserved c =
    let there = block_there c.args.out.now c.args.directory.now c.args.difference c.loop-head.at c.loop-head.out c.in-Some.head c.loop-head.invariant c.in-Some.ensures in
    there.behind c.apply_entries.new.out c.apply_entries.ensures

pub returns : goal.returns
returns c =
    applied_to_end c.args.out.now c.args.directory.now c.args.difference c.loop-head.at c.loop-head.out c.loop-head.invariant c.in_default.ensures
