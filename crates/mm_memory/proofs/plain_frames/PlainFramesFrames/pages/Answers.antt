use Rattle.std.proofs.Common.{◌≡◌, ℕ, ◌*◌, length, ap, sym, true, ◌∙◌}
use Rattle.std.proofs.lemmas.List.{length-replicate}
use Rattle.mm_memory.specs.Flat.{PlainState, pages_in}
use Rattle.mm_memory.proofs.PageLemmas.{length-pages_in, are_pages-pages_in}
use Rattle.mm_memory.proofs.plain_frames.PlainFramesFrames.pages.Goals as goal

pub returns-clause-count : goal.returns-clause-count
returns-clause-count c =
    ap (λ (plain : PlainState). plain.pages) c.self.view_is ∙ sym (length-pages_in c.args.self.now.pages c.args.self.now.bytes)

pub returns-clause-whole : goal.returns-clause-whole
returns-clause-whole c =
    are_pages-pages_in c.args.self.now.pages c.args.self.now.bytes
    (ap (λ (plain : PlainState). length plain.bytes) (sym c.self.view_is) ∙ c.self.invariant ∙ ap (λ (plain : PlainState). 4096 * plain.pages) c.self.view_is)

pub returns-clause-flags : goal.returns-clause-flags
returns-clause-flags c =
    length-replicate c.args.self.now.pages true ∙ sym (length-pages_in c.args.self.now.pages c.args.self.now.bytes)
