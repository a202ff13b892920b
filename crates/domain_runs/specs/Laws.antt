-- What all invocations over a domain keep. Each law is one of single calls; what they keep, each invocation keeps, its
-- frame included.
use Rattle.std.specs.Prelude.{◌≡◌, ◌≤◌, true, length}
use Rattle.ebc_machine.specs.Laws.{Keeps}
use Rattle.mm_base.specs.Records.{RecordsState}
use Rattle.supervisor_calls.specs.Domains.{DomainState}
use Rattle.supervisor_calls.specs.Services.{domain_meaning}
use Rattle.supervisor_calls.specs.Tables.{TablesState}

-- The records of an invocation are few: at most 8 denials, and at most 16 writes to cells.
pub record AreFew (records : RecordsState) : Type 0 where
  pub denials : length records.denials ≤ 8
  pub writes : length records.writes ≤ 16

-- Each call of a domain keeps its records few.
abbrev pub RecordsStayFew : Type 0
RecordsStayFew = Keeps (λ domain. AreFew domain.records) domain_meaning

-- The tables of a domain are these, but for what a step may change.
pub record HasTables (tables : TablesState) (domain : DomainState) : Type 0 where
  pub site : domain.tables.site ≡ tables.site
  pub registry : domain.tables.registry ≡ tables.registry
  pub protocols : domain.tables.protocols ≡ tables.protocols
  pub locked : domain.tables.locked ≡ tables.locked
  pub pages : domain.tables.pages ≡ tables.pages

-- After lock no call of a domain changes anything of the tables but what a step may change.
abbrev pub TablesStayAfterLock : Type 0
TablesStayAfterLock =
    (tables : TablesState) → tables.locked ≡ true → Keeps (HasTables tables) domain_meaning
