use Rattle.std.proofs.Common.{◌++◌, take, min, ap, ◌∙◌}
use Rattle.mm_core.specs.BufferInside.{BufferState}
use Rattle.mm_core.proofs.BufferLemmas.{closed, reply_alone}
use Rattle.mm_core.proofs.buffer.Buffer.close.Goals as goal

pub returns : goal.returns
returns c =
    closed c.self.inside.bytes c.self.inside.front (min c.self.inside.size c.args.most) _ c.truncate.new.self _ (cc)
    c.truncate.ensures c.len-self-inside.ensures.value
    ∙ ap (λ (b : BufferState). reply_alone (b.front ++ take (min b.message.size c.args.most) b.message.buffer) b.room) c.self.view_is
