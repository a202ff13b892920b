use Rattle.std.proofs.Common.{ap, ◌∙◌}
use Rattle.mm_core.proofs.BufferLemmas.{all_reply}
use Rattle.mm_core.proofs.buffer.Buffer.into_reply.Goals as goal

pub returns : goal.returns
returns c =
    c.into_list.ensures
    ∙ all_reply c.self.inside.front c.self.inside.bytes.items (ap (λ b. b.message.buffer) c.self.view_is ∙ ap (λ m. m.buffer) c.requires)
    ∙ ap (λ b. b.front) c.self.view_is
