use Rattle.std.proofs.Common.{◌+◌, ap, arith, cond, Some, sym, ◌∙◌}
use Rattle.std.proofs.lemmas.Bool.{lt-ltb}
use Rattle.mm_base.specs.Guid.{same_guid}
use Rattle.protocol_db.specs.CountsInside.{count_in}
use Rattle.protocol_db.proofs.CountLemmas.{AreAboveZero-updated, count_in-added}
use Rattle.protocol_db.proofs.counts.Counts.add.Goals as goal

pub invariant_of-self-2 : goal.invariant_of-self-2
invariant_of-self-2 c =
    AreAboveZero-updated c.self.inside.counts.entries _ c.args.guid (Some (c.count-count.result + 1)) c.in_ok-insert.ensures.updates.0 c.self.invariant
    (sym (lt-ltb 0 (c.count-count.result + 1) (omega arith)))

pub returns-clause-ok : goal.returns-clause-ok
returns-clause-ok c = λ other.
    count_in-added c.self.inside.counts.entries _ c.args.guid (Some (c.count-count.result + 1)) c.in_ok-insert.ensures.updates.0
    (ap (λ n. n + 1) (c.count-count.ensures ∙ ap (count_in c.args.guid) (sym c.self.view_is))) other
    ∙ ap (λ counts. count_in other counts + cond (same_guid other c.args.guid) 1 0) c.self.view_is
