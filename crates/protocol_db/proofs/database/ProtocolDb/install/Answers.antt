use Rattle.std.proofs.Common.{◌≡◌, false, sym, ap, ◌∙◌}
use Rattle.protocol_db.specs.ProtocolDb.{is_at_limit, is_duplicate, is_unknown}
use Rattle.protocol_db.specs.Rows.{row_at}
use Rattle.protocol_db.proofs.DbLemmas.{IsDb-pushed, absent}
use Rattle.protocol_db.proofs.database.ProtocolDb.install.Goals as goal

pub push-requires : goal.push-requires
push-requires c =
    let single : is_duplicate c.args.handle c.args.guid c.self.inside.rows ≡ false =
    ap (λ db. is_duplicate c.args.handle c.args.guid db.rows) c.self.view_is ∙ sym c.holds.ensures ∙ c.if-holds.false in
    ap (λ taken. row_at taken c.args.guid c.self.inside.rows) c.handle_taken-taken.ensures
    ∙ absent c.self.inside.rows c.self.inside.next c.self.invariant c.args.handle c.args.guid single

pub invariant_of-self-2 : goal.invariant_of-self-2
invariant_of-self-2 c =
    let known : is_unknown c.args.handle c.self.inside.rows ≡ false =
    ap (λ db. is_unknown c.args.handle db.rows) c.self.view_is ∙ sym c.lacks.ensures ∙ c.if-lacks.false in
    let single : is_duplicate c.args.handle c.args.guid c.self.inside.rows ≡ false =
    ap (λ db. is_duplicate c.args.handle c.args.guid db.rows) c.self.view_is ∙ sym c.holds.ensures ∙ c.if-holds.false in
    IsDb-pushed c.self.inside.rows c.self.inside.next c.self.invariant c.self.inside.frozen c.args.handle c.args.guid c.args.interface c.args.owner
    known single (ap (is_at_limit c.args.handle c.args.owner) c.self.view_is ∙ sym c.is_full.ensures ∙ c.if-is_full.false)
    c.push.new.self c.handle_taken-taken.result c.next_handle-self-inside.result c.in_ok-push.ensures.ok c.handle_taken-taken.ensures
    c.next_handle-self-inside.ensures
