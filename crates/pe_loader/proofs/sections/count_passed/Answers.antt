use Rattle.pe_loader.proofs.SectionLemmas.{passed_in_order, passed_apart, scanned_ended}
use Rattle.pe_loader.proofs.sections.count_passed.Goals as goal

pub returns-then-look : goal.returns-then-look
returns-then-look c = passed_in_order c.args.bytes.now c.args.layout.now c.first_look-look.result c.first_look-look.ensures c.if-look.true

pub count_apart-requires-clause-few : goal.count_apart-requires-clause-few
count_apart-requires-clause-few c = c.first_look-look.ensures.few

pub count_apart-requires-clause-ended : goal.count_apart-requires-clause-ended
count_apart-requires-clause-ended c = scanned_ended c.args.bytes.now c.args.layout.now c.first_look-look.result c.first_look-look.ensures

pub returns : goal.returns
returns c = passed_apart c.args.bytes.now c.args.layout.now c.first_look-look.result c.count_apart.result c.first_look-look.ensures c.count_apart.ensures
