use Rattle.std.proofs.Common.{◌+◌, ◌∙◌, ap, sym, arith}
use Rattle.std.proofs.lemmas.Bool.{OnTrue_at, OnFalse_at}
use Rattle.pe_loader.specs.Sections.{part_of}
use Rattle.pe_loader.proofs.OverlapLemmas.{marked_none, look_more, look_shared, pass_all}
use Rattle.pe_loader.proofs.overlaps.look_through.Goals as goal

pub loop-k-init : goal.loop-k-init
loop-k-init c = record {
  marked = marked_none (part_of c.args.bytes.now c.args.layout.now) c.clear.new.marks c.args.from _ c.args.limit c.clear.ensures.each;
  long = c.clear.ensures.length;
}

pub returns-then-has_mark-clause-look : goal.returns-then-has_mark-clause-look
returns-then-has_mark-clause-look c =
    let long = c.loop-k.invariant.long in
    look_shared (part_of c.args.bytes.now c.args.layout.now) c.loop-k.marks c.args.from _ c.loop-k.k c.loop-k.next c.args.limit c.part-part.result c.of-span.result
    c.part-part.ensures c.of-span.ensures c.args.count c.loop-k.invariant.marked (ap (λ n. c.args.from + n) (sym long)) (omega arith) (omega arith) (omega arith)
    (OnTrue_at c.if-has_mark.true c.has_mark.ensures.marked)

pub loop-k-preserved : goal.loop-k-preserved
loop-k-preserved c = record {
  marked = look_more (part_of c.args.bytes.now c.args.layout.now) c.loop-k.marks c.args.from _ c.loop-k.k c.loop-k.next c.args.limit c.part-part.result c.of-span.result
      c.part-part.ensures c.of-span.ensures c.mark.new.marks c.next_begin.result c.min-next.result c.loop-k.invariant.marked c.mark.ensures.length
      (OnFalse_at c.if-has_mark.false c.has_mark.ensures.none) c.mark.ensures.each c.next_begin.ensures.behind c.next_begin.ensures.low (omega arith);
  long = c.mark.ensures.length ∙ c.loop-k.invariant.long;
}

pub returns-clause-look : goal.returns-clause-look
returns-clause-look c =
    let long = c.loop-k.invariant.long in
    pass_all (part_of c.args.bytes.now c.args.layout.now) c.loop-k.marks c.args.from _ c.loop-k.k c.loop-k.next c.args.limit c.args.count (omega arith)
    c.loop-k.invariant.marked (ap (λ n. c.args.from + n) (sym long)) (omega arith) (omega arith)
