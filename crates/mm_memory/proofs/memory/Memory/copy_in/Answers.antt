use Rattle.std.proofs.Common.{◌≡◌, ◌<◌, ◌≤◌, ℕ, ◌+◌, ◌*◌, ◌-◌, ◌∙◌, length, sym, ap, subst, List, Bool, arith}
use Rattle.std.proofs.lemmas.List.{length-take, length-drop}
use Rattle.mm_base.specs.Frames.{IsLive}
use Rattle.mm_memory.specs.Flat.{MemoryState, joined}
use Rattle.mm_memory.proofs.PageLemmas.{length-joined, length-overwritten}
use Rattle.mm_memory.proofs.MemoryLemmas.{page_is_there, write_here, whole-with_piece, goes_on, some_left}
use Rattle.mm_memory.proofs.memory.Memory.copy_in.Goals as goal

pub place-page-requires : goal.place-page-requires
place-page-requires g c =
    let held = c.loop-rest.invariant in
    let some = some_left (length c.loop-rest.rest.now) c.is_empty.result c.is_empty.ensures c.loop-rest-test.true in
    omega (arith, held.place, held.size, held.whole.few, c.requires.within, some, length-joined _ held.whole.are)

pub copy_in-requires-clause-live : goal.copy_in-requires-clause-live
copy_in-requires-clause-live g c =
    let held = c.loop-rest.invariant in
    let some = some_left (length c.loop-rest.rest.now) c.is_empty.result c.is_empty.ensures c.loop-rest-test.true in
    let page = c.place-page.result.0 in
    let P : List Bool → Type 0 = λ live. IsLive live page in
    let place = c.place-page.ensures in
    let begins : 4096 * page < c.args.at + length c.args.bytes.now = omega (arith, place.page, held.place, some) in
    let ends : c.args.at < 4096 * page + 4096 = omega (arith, place.page, place.offset, held.later) in
    subst P (sym held.live) (c.requires.live page begins ends)

pub loop-rest-preserved : goal.loop-rest-preserved
loop-rest-preserved g c =
    let held = c.loop-rest.invariant in
    let some = some_left (length c.loop-rest.rest.now) c.is_empty.result c.is_empty.ensures c.loop-rest-test.true in
    let place = c.place-page.ensures in
    let split = c.split_at.ensures in
    let rest = c.loop-rest.rest.now in
    let here = c.min-here.result in
    let piece = c.split_at.result.0.now in
    let before = g.F.Frames.contents c.loop-rest.self-inside.frames in
    let within : c.loop-rest.from + length rest ≤ length (joined before) = omega (arith, held.place, held.size, c.requires.within) in
    let there = page_is_there before _ held.whole c.loop-rest.from _ _ place.page place.offset
    (omega (arith, within, some)) in
    let fits : c.place-page.result.1 + length piece ≤ 4096 = omega (arith, place.offset, c.min-here.ensures, split.front_len) in
    let written : joined (g.F.Frames.contents c.copy_in.new.self) ≡ _ =
    ap joined c.copy_in.ensures.bytes ∙ write_here before _ held.whole c.loop-rest.from _ _ place.page place.offset piece there fits in
    record {
      whole = whole-with_piece before _ _ _ _ _ piece held.whole there fits c.copy_in.ensures.bytes c.copy_in.ensures.live;
      live = c.copy_in.ensures.live ∙ held.live;
      size = ap length written
          ∙ length-overwritten (joined before) piece c.loop-rest.from (omega (arith, within, split.front_len, c.min-here.ensures))
          ∙ held.size;
      later = omega (arith, held.later);
      place = omega (arith, held.place, split.back_len, c.min-here.ensures);
      left = goes_on (joined before) _ rest piece c.split_at.result.1.now c.loop-rest.from here written split.front split.back
          (omega (arith, c.min-here.ensures)) within ∙ held.left;
    }
