use Rattle.std.proofs.Common.{◌∙◌, sym, arith}
use Rattle.pe_loader.proofs.SectionLemmas.{scanned_none, scanned_more, scanned_bad, scanned_all}
use Rattle.pe_loader.proofs.sections.first_look.Goals as goal

pub loop-k-init : goal.loop-k-init
loop-k-init c = scanned_none c.args.bytes.now c.args.layout.now

pub returns-then-not-lies_in : goal.returns-then-not-lies_in
returns-then-not-lies_in c =
    scanned_bad c.args.bytes.now c.args.layout.now c.loop-k.k c.loop-k.highest c.loop-k.ordered c.part-part.result (omega arith) c.loop-k.invariant
    c.part-part.ensures (sym c.lies_in.ensures ∙ c.if-not-lies_in.true)

pub loop-k-preserved : goal.loop-k-preserved
loop-k-preserved c =
    scanned_more c.args.bytes.now c.args.layout.now c.loop-k.k c.loop-k.highest c.max-highest.result c.loop-k.ordered c.stays_ordered-ordered.result c.part-part.result
    c.loop-k.invariant c.part-part.ensures (sym c.lies_in.ensures ∙ c.if-not-lies_in.false) c.stays_ordered-ordered.ensures (omega arith)

pub returns : goal.returns
returns c =
    scanned_all c.args.bytes.now c.args.layout.now c.loop-k.k c.loop-k.highest c.loop-k.ordered (omega arith) c.loop-k.invariant
