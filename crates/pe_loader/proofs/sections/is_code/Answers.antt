use Rattle.std.proofs.Common.{◌∙◌, sym, ap, arith, below_more}
use Rattle.pe_loader.specs.Sections.{holds_code, part_of}
use Rattle.pe_loader.proofs.RangeLemmas.{any_none, any_some}
use Rattle.pe_loader.proofs.sections.is_code.Goals as goal

pub returns-then-holds_code : goal.returns-then-holds_code
returns-then-holds_code c =
    let is = ap (holds_code c.args.place) (sym c.part.ensures) ∙ sym c.holds_code.ensures ∙ c.if-holds_code.true in
    sym (any_some (holds_code c.args.place) (part_of c.args.bytes.now c.args.layout.now) 0 c.args.layout.now.count c.loop-k.k (omega arith) (omega arith) is)

pub loop-k-preserved : goal.loop-k-preserved
loop-k-preserved c =
    let is = ap (holds_code c.args.place) (sym c.part.ensures) ∙ sym c.holds_code.ensures ∙ c.if-holds_code.false in
    below_more _ _ c.loop-k.invariant is

pub returns : goal.returns
returns c =
    sym (any_none (holds_code c.args.place) (part_of c.args.bytes.now c.args.layout.now) 0 c.args.layout.now.count (λ j low high. c.loop-k.invariant j (omega arith)))
