use Rattle.std.proofs.Common.{sym, ap, ◌∙◌, true≢false}
use Rattle.protocol_db.specs.Rows.{has_handle}
use Rattle.protocol_db.proofs.LawLemmas.{found_is_there}
use Rattle.protocol_db.proofs.database.ProtocolDb.handle_protocol.Goals as goal

pub returns-in-Some-clause-no_handle : goal.returns-in-Some-clause-no_handle
returns-in-Some-clause-no_handle c =
    let there = found_is_there c.args.handle c.args.guid c.self.inside.rows c.in-Some.row (sym c.find.ensures ∙ c.in-Some.is) in
    (λ e. absurd (cc), λ none. absurd (true≢false (sym there ∙ ap (λ d. has_handle c.args.handle d.rows) c.self.view_is ∙ none)))
