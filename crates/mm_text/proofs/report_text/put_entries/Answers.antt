use Rattle.mm_text.proofs.PageLemmas.{entries_lines-turn}
use Rattle.mm_text.proofs.report_text.put_entries.Goals as goal

pub loop-k-preserved : goal.loop-k-preserved
loop-k-preserved c =
    entries_lines-turn c.args.entries.now c.loop-k.k c.index-entries-k.result _ c.loop-k-test.true c.index-entries-k.is
    c.loop-k.invariant c.in_ok-put_entry.ensures
