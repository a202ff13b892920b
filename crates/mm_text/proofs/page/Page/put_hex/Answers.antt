use Rattle.std.proofs.Common.{◌≡◌, ◌++◌, length, arith}
use Rattle.std.proofs.lemmas.Bool.Decides.{nat_tests}
use Rattle.std.proofs.lemmas.List.{take-append-drop}
use Rattle.mm_text.proofs.PageLemmas.{pieces-turn, pieces-end}
use Rattle.mm_text.proofs.page.Page.put_hex.Goals as goal

pub loop-left-preserved : goal.loop-left-preserved
loop-left-preserved c =
    let cut = c.split_at.result in
    let left = c.loop-left.left.now in
    let joined : cut.0.now ++ cut.1.now ≡ left = rw c.split_at.ensures.front (rw c.split_at.ensures.back (take-append-drop _ _)) in
    pieces-turn left cut.0.now cut.1.now _ joined c.loop-left.invariant c.in_ok-put_piece.ensures

pub returns : goal.returns
returns c =
    let none : length c.loop-left.left.now ≡ 0 = grind (arith, nat_tests) in
    pieces-end c.args.bytes.now c.loop-left.left.now none c.loop-left.invariant
