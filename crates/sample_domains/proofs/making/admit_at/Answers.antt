use Rattle.std.proofs.Common.{◌∙◌, List, Bool, false, get_or, ap, arith}
use Rattle.sample_domains.proofs.MakingLemmas.{all_live}
use Rattle.sample_domains.proofs.making.admit_at.Goals as goal

pub admit-requires-clause-live : goal.admit-requires-clause-live
admit-requires-clause-live c = λ page before behind.
    ap (λ (pages : List Bool). get_or pages page false) c.requires.pages.live
    ∙ all_live 8192 page (omega (arith, before, c.requires.from, c.requires.to))
