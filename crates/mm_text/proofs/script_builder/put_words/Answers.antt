use Rattle.std.proofs.Common.{◌+◌, [], ◌∷◌, ◌++◌, length, ap, ◌∙◌}
use Rattle.mm_base.specs.Numbers.{words_for}
use Rattle.comm_core.specs.declared.event.Event.TheVariants.{Poke}
use Rattle.mm_text.proofs.EventLemmas.{pokes_from-turn}
use Rattle.mm_text.proofs.script_builder.put_words.Goals as goal

pub loop-j-preserved : goal.loop-j-preserved
loop-j-preserved c =
    pokes_from-turn c.args.lane (words_for (length c.args.bytes.now)) c.loop-j.j c.args.bytes.now c.loop-j.events c.push.new.self _ c.loop-j-test.true c.loop-j.invariant
    (c.in_ok-push.ensures.ok ∙ ap (λ value. c.loop-j.events ++ Poke c.args.lane (2 + c.loop-j.j) value ∷ []) c.word_at.ensures)
