use Rattle.std.proofs.Common.{◌≡◌, ◌+◌, ◌-◌, length, ◌∙◌, ap, arith, length-drop}
use Rattle.mm_base.specs.Numbers.{overwritten}
use Rattle.mm_core.specs.BufferInside.{BufferState}
use Rattle.mm_core.proofs.PageLemmas.{put_is}
use Rattle.mm_core.proofs.buffer.Buffer.put.Goals as goal

pub returns : goal.returns
returns c =
    let items = c.self.inside.bytes.items in
    let front = c.self.inside.front in
    let begins : c.len.result - (c.message_bytes.result - c.args.at) ≡ front + c.args.at =
    omega (
      arith,
      c.len.ensures.value,
      c.message_bytes.ensures,
      ap (λ (b : BufferState). length b.message.buffer) c.self.view_is,
      length-drop front items,
      c.self.invariant,
      c.requires,
    ) in
    put_is items c.args.piece.now front c.args.at c.self.invariant c.overwrite.new.self c.self.inside.bytes.room c.self.inside.size _ begins
    c.overwrite.ensures
    ∙ ap (λ (b : BufferState). record b { message = record b.message { buffer = overwritten b.message.buffer c.args.at c.args.piece.now } })
    c.self.view_is
