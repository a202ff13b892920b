use Rattle.std.proofs.Common.{arith}
use Rattle.pe_loader.specs.ReadingInside.{form_in}
use Rattle.pe_loader.proofs.BlockLemmas.{no_room, no_size, is_head}
use Rattle.pe_loader.proofs.relocations.Relocations.head_at.Goals as goal

pub returns-then-end-at-lt-HEAD_BYTES-clause-head : goal.returns-then-end-at-lt-HEAD_BYTES-clause-head
returns-then-end-at-lt-HEAD_BYTES-clause-head c =
    no_room (form_in c.args.bytes.now c.args.self.now.layout) c.args.self.now.directory c.args.at (omega arith)

pub returns-then-size-eq0-clause-head : goal.returns-then-size-eq0-clause-head
returns-then-size-eq0-clause-head c =
    no_size (form_in c.args.bytes.now c.args.self.now.layout) c.args.self.now.directory c.args.at c.double-size.result c.double-size.ensures.number c.if-size-eq0.true

pub returns-clause-head : goal.returns-clause-head
returns-clause-head c =
    is_head (form_in c.args.bytes.now c.args.self.now.layout) c.args.self.now.directory c.args.at _ _ (omega arith) c.double-page.ensures.number c.double-size.ensures.number
    c.if-size-eq0.false
