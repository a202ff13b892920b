use Rattle.std.proofs.Common.{◌∙◌}
use Rattle.pe_loader.proofs.FormLemmas.{plain_double}
use Rattle.pe_loader.proofs.window.Window.double.Goals as goal

pub returns-clause-number : goal.returns-clause-number
returns-clause-number c =
    plain_double c.args.bytes.now c.args.layout.now c.args.at _ _ c.requires.within (c.from.ensures ∙ c.word-low.ensures.number) (c.from-2.ensures ∙ c.word-high.ensures.number)
