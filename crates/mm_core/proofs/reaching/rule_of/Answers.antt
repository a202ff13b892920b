use Rattle.std.proofs.Common.{rules, tests, ◌∙◌}
use Rattle.std.proofs.lemmas.Iterator.{YieldsList-from_slice}
use Rattle.std.proofs.lemmas.Iterator.Consumers.{nth_from_yields_List, YieldsList-from_filter}
use Rattle.mm_core.proofs.reaching.rule_of.Goals as goal

pub returns : goal.returns
returns c =
    c.copied.ensures
    ∙ nth_from_yields_List _ _ _ c.nth.ensures.ran
    (YieldsList-from_filter _ _ (YieldsList-from_slice c.args.rules.now cc) c.filter.ensures.closure (λ x r q k. search (rules, tests)))
