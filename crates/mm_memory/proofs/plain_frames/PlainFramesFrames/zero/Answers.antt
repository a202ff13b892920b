use Rattle.std.proofs.Common.{◌≡◌, ap, ◌∙◌, length, arith}
use Rattle.mm_base.specs.Frames.{zeros}
use Rattle.mm_memory.specs.Flat.{PlainState}
use Rattle.mm_memory.proofs.PlainLemmas.{plain_page, live_is_there}
use Rattle.mm_memory.proofs.PageLemmas.{length-overwritten, length-zeros}
use Rattle.mm_memory.proofs.plain_frames.PlainFramesFrames.zero.Goals as goal

pub returns-clause-bytes : goal.returns-clause-bytes
returns-clause-bytes c =
    plain_page _ c.args.self.now c.self.view_is c.self.invariant c.args.page c.place.result c.clear_page.new.bytes.items
    (live_is_there c.args.self.now.pages c.args.page c.requires) c.place.ensures c.clear_page.ensures

pub invariant_of-self : goal.invariant_of-self
invariant_of-self c =
    let there = live_is_there c.args.self.now.pages c.args.page c.requires in
    let pages : c.self.inside.pages ≡ c.args.self.now.pages = ap (λ (plain : PlainState). plain.pages) c.self.view_is in
    ap length c.clear_page.ensures
    ∙ length-overwritten c.self.inside.bytes.items (zeros 4096) c.place.result
    (omega (arith, there, pages, c.place.ensures, c.self.invariant, length-zeros 4096))
    ∙ c.self.invariant
