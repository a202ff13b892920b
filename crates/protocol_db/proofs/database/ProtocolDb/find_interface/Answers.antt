use Rattle.std.proofs.Common.{Bool, Option, None, Some, cond, eq-eqb, sym, ap, ◌∙◌}
use Rattle.std.proofs.lemmas.Bool.{ne_eqb}
use Rattle.protocol_db.specs.Rows.{row_with}
use Rattle.protocol_db.specs.declared.protocol_row.Row.{Row}
use Rattle.protocol_db.proofs.RowLemmas.{row_with-found, row_with-none}
use Rattle.protocol_db.proofs.database.ProtocolDb.find_interface.Goals as goal

pub returns-in_err-row : goal.returns-in_err-row
returns-in_err-row c =
    c.from_residual.ensures
    ∙ sym (row_with-none c.args.handle c.args.guid c.args.interface c.self.inside.rows (sym c.find.ensures ∙ c.in_err-row.was))
    ∙ ap (λ db. row_with c.args.handle c.args.guid c.args.interface db.rows) c.self.view_is

pub returns-then-row-interface : goal.returns-then-row-interface
returns-then-row-interface c =
    sym (row_with-found c.args.handle c.args.guid c.args.interface c.self.inside.rows c.in_ok-row.row c.self.invariant.apart
    (sym c.find.ensures ∙ c.in_ok-row.was)
    ∙ ap {A = Bool} {B = Option Row} (λ b. cond b (Some c.in_ok-row.row) None)
    (eq-eqb c.in_ok-row.row.interface c.args.interface c.if-row-interface.true))
    ∙ ap (λ db. row_with c.args.handle c.args.guid c.args.interface db.rows) c.self.view_is

pub returns-else-row-interface : goal.returns-else-row-interface
returns-else-row-interface c =
    sym (row_with-found c.args.handle c.args.guid c.args.interface c.self.inside.rows c.in_ok-row.row c.self.invariant.apart
    (sym c.find.ensures ∙ c.in_ok-row.was)
    ∙ ap {A = Bool} {B = Option Row} (λ b. cond b (Some c.in_ok-row.row) None)
    (ne_eqb c.in_ok-row.row.interface c.args.interface c.if-row-interface.false))
    ∙ ap (λ db. row_with c.args.handle c.args.guid c.args.interface db.rows) c.self.view_is
