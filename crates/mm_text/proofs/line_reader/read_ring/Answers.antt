use Rattle.std.proofs.Common.{sym, arith}
use Rattle.mm_text.proofs.ReadLemmas.{judged_ring, judged_refused, not_ring, given_as}
use Rattle.mm_text.proofs.line_reader.read_ring.Goals as goal

pub returns-in-len1-up : goal.returns-in-len1-up
returns-in-len1-up c = given_as _ _ _ (judged_ring (λ w. w.now) c.args.words.now _ (omega arith)) c.ring_line.ensures

pub returns-in_default : goal.returns-in_default
returns-in_default c = sym (judged_refused _ _ (not_ring (λ w. w.now) c.args.words.now (omega arith)))
