use Rattle.std.proofs.Common.{List, subst, sym}
use Rattle.depex.specs.declared.item.Item.{Item}
use Rattle.depex.proofs.WalkLemmas.{Walked, takes_more, ends_at}
use Rattle.depex.proofs.reading.read_items.Goals as goal

pub loop-item-preserved : goal.loop-item-preserved
loop-item-preserved c =
    let l = c.loop-item in
    let on = takes_more c.args.bytes.now l.walk c.next_item.new.self l.items _ _ l.invariant.bytes l.invariant.walked c.in-Ok-Some.ensures c.in-Ok-Some.field-0-is in
    let Q : List Item → Type 0 = λ read. Walked read c.next_item.new.self in
    record { bytes = on.0; walked = subst Q (sym c.in_ok-push-in-Ok-Some.ensures.ok) on.1 }

pub returns-in-Ok-None-clause-condition : goal.returns-in-Ok-None-clause-condition
returns-in-Ok-None-clause-condition c =
    let l = c.loop-item in
    ends_at c.args.bytes.now l.walk c.next_item.new.self l.items _ l.invariant.bytes l.invariant.walked c.in-Ok-None.ensures c.in-Ok-None.field-0-is
