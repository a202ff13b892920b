use Rattle.std.proofs.Common.{Bool, List, sym, subst}
use Rattle.depex.proofs.WorkLemmas.{Working, working_none}
use Rattle.depex.proofs.holding.condition_holds.Goals as goal

pub loop-item-init : goal.loop-item-init
loop-item-init g c =
    let has = g.I.Installed.installed c.args.installed.now in
    let P : List Bool → Type 0 = λ values. Working has c.args.items.now c.args.items.now values in
    subst P (sym c.new-operands.ensures) (working_none has c.args.items.now c.requires)
