use Rattle.std.proofs.Common.{ap, ◌∙◌}
use Rattle.std.specs.List.{list_any}
use Rattle.std.specs.Map.{values_of}
use Rattle.protocol_db.specs.Rows.{is_of_guid}
use Rattle.protocol_db.proofs.CountLemmas.{AreCounts-any}
use Rattle.protocol_db.proofs.row_map.RowMap.has.Goals as goal

pub returns : goal.returns
returns c =
    c.has.ensures
    ∙ AreCounts-any c.self.inside.guids (values_of c.self.inside.rows.entries) c.self.invariant.counted c.args.guid
    ∙ ap (list_any (is_of_guid c.args.guid)) c.self.view_is
