use Rattle.std.proofs.Common.{◌≡◌, Bool, List, length, refl, sym, ap, ◌∙◌, subst, arith}
use Rattle.mm_base.specs.declared.invocation.Ended.{Ended}
use Rattle.mm_core.specs.CodeInside.{IsPageLive, refreshed, run_over}
use Rattle.mm_core.proofs.CodeLemmas.{same_tables, tables_stay, taken_back, not_taken_back}
use Rattle.mm_core.proofs.code.invoke_code.Goals as goal
use Rattle.mm_core.proofs.code.invoke_code.Goals.{then-is_some, else-is_some}
use Rattle.supervisor_calls.specs.Domains.{DomainState}
use Rattle.supervisor_calls.specs.Tables.{TablesState}

pub take_back-requires-clause-live : goal.take_back-requires-clause-live
take_back-requires-clause-live c =
    let region = c.region_of-region.result in
    let stays = same_tables c.args.saved c.args.handler.now c.args.code.image c.args.code.address region c.args.buffer.now.message c.args.tables
    c.fill.new.tables c.fill.ensures c.requires.booted.locked in
    subst (λ (pages : List Bool). IsPageLive pages region)
    (sym (ap (λ (t : TablesState). t.pages) c.run_code-tables.ensures.tables ∙ stays.pages)) c.region_of-region.ensures.live

pub returns-clause-booted : goal.returns-clause-booted
returns-clause-booted c =
    let region = c.region_of-region.result in
    let stays = same_tables c.args.saved c.args.handler.now c.args.code.image c.args.code.address region c.args.buffer.now.message c.args.tables
    c.fill.new.tables c.fill.ensures c.requires.booted.locked in
    record {
      locked = ap (λ (t : TablesState). t.locked) c.run_code-tables.ensures.tables ∙ stays.locked ∙ c.requires.booted.locked;
      orderly = c.keeps_order.ensures.orderly;
      few =
          omega (
            arith,
            ap (λ (t : TablesState). length t.protocols.rows) c.run_code-tables.ensures.tables,
            ap (λ p. length p.rows) stays.protocols,
            c.requires.booted.few,
          );
    }

pub returns-clause-invoked : goal.returns-clause-invoked
returns-clause-invoked c =
    let region = c.region_of-region.result in
    let given = c.args.buffer.now in
    let Run : TablesState → Ended × DomainState = run_over c.args.saved c.args.handler.now c.args.code.image c.args.code.address region in
    let ran = Run (refreshed region given.message c.args.tables) in
    let stays = tables_stay c.args.saved c.args.handler.now c.args.code.image c.args.code.address region (refreshed region given.message c.args.tables)
    c.requires.booted.locked in
    let is : c.run_code-tables.result.0 ≡ ran.1.tables =
    c.run_code-tables.ensures.tables ∙ ap (λ (t : TablesState). (Run t).1.tables) c.fill.ensures in
    record {
      region = region;
      is_region = c.region_of-region.ensures.region;
      ran = ran;
      is = refl;
      stays = record { site = stays.site; registry = stays.registry; protocols = stays.protocols; locked = stays.locked; pages = stays.pages };
      tables_are = is;
      records_are = c.run_code-tables.ensures.records ∙ ap (λ (t : TablesState). (Run t).1.records) c.fill.ensures;
      ended_is = c.run_code-tables.ensures.ended ∙ ap (λ (t : TablesState). (Run t).0) c.fill.ensures;
      message_is =
          elim c.if-is_some.branch [
            | then-is_some w ↦
                w.buffer-is ∙ w.take_back.ensures
                ∙ taken_back given region c.run_code-tables.result.0 ran.1.tables c.args.handler.now.guid is (sym c.is_some.ensures ∙ w.if-is_some.true)
            | else-is_some w ↦
                w.buffer-is
                ∙ not_taken_back given region ran.1.tables.live.memory c.args.handler.now.guid (sym c.is_some.ensures ∙ w.if-is_some.false)
          ];
    }
