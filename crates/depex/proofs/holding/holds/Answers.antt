use Rattle.std.proofs.Common.{◌∙◌, ap}
use Rattle.depex.specs.Expressions.{Expression}
use Rattle.depex.specs.Meaning.{holds_on}
use Rattle.depex.proofs.WorkLemmas.{held}
use Rattle.depex.proofs.holding.holds.Goals as goal

pub returns-in-Items : goal.returns-in-Items
returns-in-Items g c =
    let has = g.I.Installed.installed c.args.installed.now in
    held has c.depex.inside.kept c.in-Items.items c.condition_holds.result c.depex.invariant c.in-Items.is
    (λ tree is. c.condition_holds.ensures tree (c.as_slice.ensures ∙ is))
    ∙ ap (λ (expression : Expression). holds_on has expression) c.depex.view_is
