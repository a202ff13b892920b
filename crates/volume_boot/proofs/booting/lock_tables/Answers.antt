use Rattle.volume_boot.proofs.RowLemmas.{booted}
use Rattle.volume_boot.proofs.booting.lock_tables.Goals as goal

pub returns-clause-booted : goal.returns-clause-booted
returns-clause-booted c =
    booted c.args.host.tables c.into_tables-tables.result c.lock.new.self c.into_tables-tables.ensures c.lock.ensures c.keeps.ensures.rows c.keeps-2.ensures.few
    c.interfaces.ensures.most c.keeps_order.ensures.orderly
