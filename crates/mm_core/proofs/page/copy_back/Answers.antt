use Rattle.std.proofs.Common.{◌≡◌, ◌+◌, ◌-◌, ◌≤◌, ℕ, List, length, drop, ◌∙◌, ap, arith, length-drop}
use Rattle.mm_base.specs.Numbers.{overwritten}
use Rattle.mm_core.specs.BufferInside.{BufferState}
use Rattle.mm_core.specs.Message.{Message}
use Rattle.mm_core.proofs.PageLemmas.{copied_length, copied_more, piece_is}
use Rattle.mm_core.proofs.page.copy_back.Goals as goal

pub put-requires : goal.put-requires
put-requires g c =
    let from : List ℕ = drop c.args.place c.args.tables.now.live.memory in
    let given : Message = c.args.buffer.now.message in
    let long : length from ≡ 33554432 - c.args.place =
    omega (arith, length-drop c.args.place c.args.tables.now.live.memory, c.keeps.ensures.tables.memory) in
    omega (
      arith,
      c.loop-at.invariant.0,
      ap (λ (b : BufferState). length b.message.buffer) c.loop-at.invariant.1,
      copied_length from given c.loop-at.at (omega (arith, long, c.loop-at.invariant.0, c.requires.within)) (omega (arith, c.loop-at.invariant.0, c.requires.few)),
      c.requires.few,
      c.min-n.ensures,
      c.split_at.ensures.front_len,
      c.loop-at-test.true,
    )

pub loop-at-preserved : goal.loop-at-preserved
loop-at-preserved g c =
    let memory : List ℕ = c.args.tables.now.live.memory in
    let from : List ℕ = drop c.args.place memory in
    let given : Message = c.args.buffer.now.message in
    let at = c.loop-at.at in
    let n = c.min-n.result in
    let less : at + n ≤ c.args.count = omega (arith, c.min-n.ensures, c.loop-at-test.true) in
    let short : n ≤ 8 = omega (arith, c.min-n.ensures) in
    let within : c.args.place + at + n ≤ length memory = omega (arith, less, c.requires.within, c.keeps.ensures.tables.memory) in
    let long : length from ≡ length memory - c.args.place = length-drop c.args.place memory in
    let piece = piece_is memory c.split_at.result.0.now c.to_le_bytes-bytes.result c.args.place at n c.number_in_memory-number.result c.keeps.ensures.tables.bytes short
    within c.number_in_memory-number.ensures c.to_le_bytes-bytes.ensures c.split_at.ensures.front in
    let more = copied_more from c.split_at.result.0.now given at n (omega (arith, within, long)) piece c.split_at.ensures.front_len in (
      less,
      c.put.ensures
          ∙ ap (λ (b : BufferState). record b { message = record b.message { buffer = overwritten b.message.buffer at c.split_at.result.0.now } }) c.loop-at.invariant.1
          ∙ ap (λ (ys : List ℕ). record c.args.buffer.now { message = record given { buffer = ys } }) more,
    )
