use Rattle.std.proofs.Common.{◌<◌, not, arith}
use Rattle.std.proofs.lemmas.List.Elements.{All-filter}
use Rattle.protocol_db.specs.Rows.{is_owned_by}
use Rattle.protocol_db.proofs.tests.forget.Goals as goal

pub forget-requires-clause-over : goal.forget-requires-clause-over
forget-requires-clause-over c =
    λ k d in'.
    omega (
      arith,
      c.next-next.ensures.value,
      All-filter (λ row. not (is_owned_by c.args.owner row)) (λ row. row.handle < c.args.db.now.next) c.args.db.now.rows c.next-next.ensures.below k d in',
    )
