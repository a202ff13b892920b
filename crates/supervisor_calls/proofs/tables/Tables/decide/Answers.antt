use Rattle.std.proofs.Common.{◌∙◌, ap}
use Rattle.supervisor_calls.specs.Accesses.{decided}
use Rattle.supervisor_calls.specs.Tables.{TablesState}
use Rattle.supervisor_calls.proofs.tables.Tables.decide.Goals as goal

pub returns : goal.returns
unfolding decided
returns g c =
    let a = c.args.access in
    c.decide.ensures ∙ ap (λ (tables : TablesState). decided tables.site c.args.image a.kind a.at a.n a.right c.args.trapped) c.self.view_is
