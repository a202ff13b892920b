use Rattle.driver_start.proofs.OpeningLemmas.{memory_whole, memory_small, tables_are_host, opened}
use Rattle.driver_start.proofs.host.Host+PlainFrames.opening.Goals as goal

pub new-requires-3-clause-whole : goal.new-requires-3-clause-whole
new-requires-3-clause-whole c = memory_whole c.in_ok-memory.memory c.in_ok-memory.ensures

pub new-requires-3-clause-small : goal.new-requires-3-clause-small
new-requires-3-clause-small c = memory_small c.in_ok-memory.memory c.in_ok-memory.ensures

pub new-requires-4 : goal.new-requires-4
new-requires-4 c =
    tables_are_host c.in_ok-memory.memory c.in_ok-memory.ensures c.in_ok-guard.guard c.in_ok-platform.platform c.in_ok-tables.tables c.in_ok-tables.ensures

pub returns : goal.returns
returns c =
    opened c.in_ok-memory.memory c.in_ok-memory.ensures c.in_ok-guard.guard c.args.policy c.in_ok-guard.ensures c.in_ok-platform.platform
    c.args.opening.now.cells c.in_ok-platform.ensures c.in_ok-tables.tables c.in_ok-tables.ensures c.new-4.result c.new-4.ensures
