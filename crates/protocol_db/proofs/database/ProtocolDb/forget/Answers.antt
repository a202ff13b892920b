use Rattle.std.proofs.Common.{◌<◌, not, sym, subst}
use Rattle.std.specs.List.{All}
use Rattle.protocol_db.specs.ProtocolDb.{DbState, IsDb}
use Rattle.protocol_db.specs.Rows.{is_owned_by, without_owner}
use Rattle.protocol_db.proofs.DbLemmas.{IsDb-back, IsDb-filter}
use Rattle.protocol_db.proofs.database.ProtocolDb.forget.Goals as goal

pub invariant_of-self : goal.invariant_of-self
invariant_of-self c =
    let Above : DbState → Type 0 = λ db. All (λ row. row.handle < c.args.next) (without_owner c.args.owner db.rows) in
    subst (λ rows. IsDb rows c.args.next) (sym c.remove_owner.ensures)
    (IsDb-back (without_owner c.args.owner c.self.inside.rows) c.self.inside.next
    (IsDb-filter c.self.inside.rows c.self.inside.next c.self.invariant (λ row. not (is_owned_by c.args.owner row)))
    c.args.next (subst Above (sym c.self.view_is) c.requires.over))
