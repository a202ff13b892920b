use Rattle.std.proofs.Common.{arith}
use Rattle.ebc_machine.proofs.FlatLemmas.{last_front}
use Rattle.ebc_machine.proofs.flat_bus.last_bytes.Goals as goal

pub returns : goal.returns
returns c =
    let few = c.requires.few in
    let back = c.split_at.ensures.back_len in
    last_front c.args.bytes.now c.split_at.result.1.now c.copy_from_slice.new.self c.args.place c.split_at.ensures.back
    c.copy_from_slice.ensures.after (omega arith)
