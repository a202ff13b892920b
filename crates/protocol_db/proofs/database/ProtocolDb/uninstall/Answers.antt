use Rattle.std.proofs.Common.{◌≡◌, ◌+◌, Some, length, not, sym, ap, subst, ◌∙◌}
use Rattle.protocol_db.specs.ProtocolDb.{IsDb}
use Rattle.protocol_db.specs.Rows.{is_at, row_with}
use Rattle.protocol_db.proofs.DbLemmas.{IsDb-filter}
use Rattle.protocol_db.proofs.RowLemmas.{without_row-alone_with}
use Rattle.protocol_db.proofs.database.ProtocolDb.uninstall.Goals as goal

pub invariant_of-self : goal.invariant_of-self
invariant_of-self c =
    subst (λ rows. IsDb rows c.self.inside.next) (sym c.remove.ensures)
    (IsDb-filter c.self.inside.rows c.self.inside.next c.self.invariant (λ row. not (is_at c.args.handle c.args.guid row)))

pub returns-in-Some-clause-alone : goal.returns-in-Some-clause-alone
returns-in-Some-clause-alone c =
    let found : row_with c.args.handle c.args.guid c.args.interface c.self.inside.rows ≡ Some c.in-Some.row =
    ap (λ db. row_with c.args.handle c.args.guid c.args.interface db.rows) c.self.view_is ∙ sym c.find_interface.ensures ∙ c.in-Some.is in
    ap (λ db. length db.rows) (sym c.self.view_is)
    ∙ without_row-alone_with c.args.handle c.args.guid c.args.interface c.self.inside.rows c.in-Some.row c.self.invariant.apart found
    ∙ ap (λ rows. length rows + 1) (sym c.remove.ensures)
