use Rattle.std.proofs.Common.{◌≡◌, ◌-◌, length, take}
use Rattle.mm_base.specs.declared.guid.Guid.{Guid}
use Rattle.protocol_db.specs.CountsInside.{count_in}
use Rattle.protocol_db.specs.Rows.{owned_by, rows_of}
use Rattle.protocol_db.proofs.counts.Counts.take_owned.Given as goal

abbrev pub invariant-loop-row : goal.invariant-loop-row
invariant-loop-row l =
    (other : Guid) → count_in other l.self ≡ count_in other l.initial.self - length (rows_of other (owned_by l.owner (take l.row-index l.rows)))
