use Rattle.std.proofs.Common.{refl, ap, ◌∙◌}
use Rattle.protocol_db.specs.Rows.{row_at}
use Rattle.protocol_db.proofs.KeyLemmas.{lookup-row_at}
use Rattle.protocol_db.proofs.row_map.RowMap.find.Goals as goal

pub returns : goal.returns
returns c =
    c.copied.ensures
    ∙ c.get.ensures.value
    ∙ lookup-row_at c.args.handle c.args.guid _ (λ row. refl) c.self.inside.rows.entries c.self.invariant.keyed
    ∙ ap (row_at c.args.handle c.args.guid) c.self.view_is
