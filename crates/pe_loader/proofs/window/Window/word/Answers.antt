use Rattle.std.proofs.Common.{◌∙◌}
use Rattle.pe_loader.proofs.FormLemmas.{plain_word}
use Rattle.pe_loader.proofs.window.Window.word.Goals as goal

pub returns-clause-number : goal.returns-clause-number
returns-clause-number c =
    plain_word c.args.bytes.now c.args.layout.now c.args.at _ _ c.requires.within (c.from.ensures ∙ c.byte-low.ensures.byte) (c.from-2.ensures ∙ c.byte-high.ensures.byte)
