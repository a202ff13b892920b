use Rattle.std.proofs.Common.{refl, ap, arith}
use Rattle.pe_loader.specs.declared.span.Span.{Span}
use Rattle.pe_loader.proofs.LoadLemmas.{part_there, part_not_there}
use Rattle.pe_loader.proofs.window.copy_part.Goals as goal

pub returns-then-span-clause-each : goal.returns-then-span-clause-each
returns-then-span-clause-each c = λ place h.
    let begin = ap (λ (span : Span). span.begin) c.of-span.ensures in
    let end = ap (λ (span : Span). span.end) c.of-span.ensures in
    part_there c.args.bytes.now c.args.room.now c.put.new.out c.args.part.now c.args.begin _ c.of-span.result.begin c.of-span.result.end place begin end _
    c.put.ensures h (omega arith) (omega arith) (omega arith) (grind arith)

pub returns-else-span-clause-each : goal.returns-else-span-clause-each
returns-else-span-clause-each c = λ place h.
    let begin = ap (λ (span : Span). span.begin) c.of-span.ensures in
    let end = ap (λ (span : Span). span.end) c.of-span.ensures in
    part_not_there c.args.bytes.now c.args.room.now c.args.room.now c.args.part.now c.args.begin 0 c.of-span.result.begin c.of-span.result.end place begin end
    (omega arith) refl h
