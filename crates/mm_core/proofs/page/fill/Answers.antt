use Rattle.std.proofs.Common.{◌≡◌, min, length, take, ap, ◌∙◌}
use Rattle.mm_base.specs.Numbers.{bytes_of_word}
use Rattle.mm_core.specs.CodeRun.{page_room}
use Rattle.mm_core.proofs.PageLemmas.{filled_is, front_is}
use Rattle.mm_core.proofs.page.fill.Goals as goal

pub returns : goal.returns
returns g c =
    let buffer = c.args.buffer.now.message.buffer in
    let front : c.split_at.result.0.now ≡ take page_room buffer =
    front_is buffer c.split_at.result.0.now c.min.result (c.min.ensures ∙ ap (λ bytes. min page_room (length bytes)) c.message-message.ensures)
    (c.split_at.ensures.front ∙ ap (take c.min.result) c.message-message.ensures) in
    filled_is c.args.region c.args.buffer.now.message c.args.tables.now c.clear.new.self c.load.new.self c.load-2.new.self
    c.place_of-page.result c.to_le_bytes.result c.split_at.result.0.now c.clear.ensures c.load.ensures c.load-2.ensures
    c.place_of-page.ensures.value (c.to_le_bytes.ensures ∙ ap bytes_of_word c.size.ensures) front
