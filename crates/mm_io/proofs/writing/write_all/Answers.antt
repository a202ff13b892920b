use Rattle.std.proofs.Common.{List, ℕ, take, ◌++◌, ap, sym, ◌∙◌, subst, rules}
use Rattle.mm_io.specs.Streams.{Appends}
use Rattle.mm_io.proofs.StreamLemmas.{appends-more, take-more}
use Rattle.mm_io.proofs.writing.write_all.Goals as goal

pub loop-done-preserved : goal.loop-done-preserved
loop-done-preserved g c =
    let before = c.loop-done.invariant in
    let wrote = c.in_ok-count.ensures in
    let n = c.in_ok-count.count in
    let P : List ℕ → Type 0 = λ l. Appends (g.K.Sink.written c.args.sink.now) (g.K.Sink.written c.write.new.self) l in
    let joined = ap (λ l. take c.loop-done.done c.args.bytes.now ++ take n l) c.split_at.ensures.back ∙ sym (take-more c.loop-done.done n c.args.bytes.now) in
    record {
      wrote = subst P joined (appends-more _ _ _ _ _ before.wrote wrote.appends);
      within = search rules;
      later = search rules;
    }
