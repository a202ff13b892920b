use Rattle.std.proofs.Common.{arith}
use Rattle.pe_loader.proofs.BlockLemmas.{no_room, no_size, is_head}
use Rattle.pe_loader.proofs.applying.head_in.Goals as goal

pub returns-then-end-at-lt-HEAD_BYTES : goal.returns-then-end-at-lt-HEAD_BYTES
returns-then-end-at-lt-HEAD_BYTES c =
    no_room c.args.form.now c.args.directory.now c.args.at (omega arith)

pub returns-then-size-eq0 : goal.returns-then-size-eq0
returns-then-size-eq0 c =
    no_size c.args.form.now c.args.directory.now c.args.at c.u32_at-size.result c.u32_at-size.ensures c.if-size-eq0.true

pub returns : goal.returns
returns c =
    is_head c.args.form.now c.args.directory.now c.args.at _ _ (omega arith) c.u32_at-page.ensures c.u32_at-size.ensures c.if-size-eq0.false
