use Rattle.std.proofs.Common.{refl, arith}
use Rattle.pe_loader.proofs.ApplyLemmas.{applied_none, applied_stays, applied_more, applied_all}
use Rattle.pe_loader.proofs.applying.apply_entries.Goals as goal

pub loop-k-init : goal.loop-k-init
loop-k-init c =
    applied_none c.args.out.now c.args.out.now c.args.difference c.args.page c.args.at c.args.count refl c.requires.0 c.requires.1

pub apply-requires : goal.apply-requires
apply-requires c =
    applied_stays c.args.out.now c.loop-k.out c.args.difference c.args.page c.args.at c.args.count c.loop-k.k c.u16_at-word.result c.of.result
    c.loop-k.invariant (omega arith) c.u16_at-word.ensures c.of.ensures

pub loop-k-preserved : goal.loop-k-preserved
loop-k-preserved c =
    applied_more c.args.out.now c.loop-k.out c.args.difference c.args.page c.args.at c.args.count c.loop-k.k c.u16_at-word.result c.of.result
    c.loop-k.invariant (omega arith) c.u16_at-word.ensures c.of.ensures c.apply.new.out c.apply.ensures

pub returns : goal.returns
returns c =
    applied_all c.args.out.now c.loop-k.out c.args.difference c.args.page c.args.at c.args.count c.loop-k.k (omega arith) c.loop-k.invariant
