-- What each call of a domain keeps: the records stay few; and after lock the tables stay, but for what a step may change.
use Rattle.std.proofs.Common.{◌≡◌, ℕ, Bool, true, false, ◌&&◌, if◌then◌else◌, nat_lt, nat_le, [], ◌∷◌, ◌++◌, length, length-append, refl, ◌∙◌, arith}
use Rattle.std.proofs.lemmas.Bool.Decides.{nat_tests}
use Rattle.mm_base.specs.Records.{RecordsState}
use Rattle.mm_base.specs.declared.access.Denial.{Denial}
use Rattle.mm_base.specs.declared.access.Kind.{Kind}
use Rattle.mm_base.specs.declared.access.Right.TheVariants.{Write}
use Rattle.mm_base.specs.declared.access.Verdict.{Verdict}
use Rattle.mm_base.specs.declared.access.Verdict.TheVariants.{Pass, Deny}
use Rattle.mm_base.specs.declared.access.Why.TheVariants.{Quota}
use Rattle.secure_policy.specs.Laws.{passes}
use Rattle.supervisor_calls.specs.Accesses.{Acting, has_used_quota, held_after, is_cell_write, with_cell_write, with_denial, with_quota}
use Rattle.supervisor_calls.specs.Deeds.{after_clearing, after_write, with_pool, with_reserve}
use Rattle.supervisor_calls.specs.Domains.{DomainState, acted, acting_of, verdict_in}
use Rattle.supervisor_calls.specs.Tables.{TablesState}
use Rattle.domain_runs.specs.Laws.{AreFew, HasTables, RecordsStayFew, TablesStayAfterLock}
use Rattle.domain_runs.proofs.KeptLemmas.{KeepsParts, calls_kept}

-- ---- records

-- a denial is recorded where fewer than 8 are
denial_few : (denial : Denial) (acting : Acting) → AreFew acting.records → AreFew (with_denial denial acting).records
denial_few denial acting few = by_room (nat_lt (length acting.records.denials) 8) refl
  where
    by_room : (room : Bool) → nat_lt (length acting.records.denials) 8 ≡ room
        → AreFew (
        if room then record acting { records = record acting.records { denials = acting.records.denials ++ denial ∷ [] } }
        else acting
        ).records
    by_room true is =
        let less : nat_lt (length acting.records.denials) 8 ≡ true = is in
        let long = length-append acting.records.denials (denial ∷ []) in
        record { denials = grind (arith, nat_tests, less, long); writes = few.writes }
    by_room false is = few

-- what passes under the quota, and is a write to cells, is not one too many
quota_left : (kind : Kind) (at : ℕ) (records : RecordsState) (verdict : Verdict) → passes (with_quota kind at records verdict) ≡ true
    → is_cell_write kind at ≡ true → has_used_quota records ≡ false
quota_left kind at records (Pass why) pass is = by_test (is_cell_write kind at) (has_used_quota records) pass is
  where
    by_test : (cell used : Bool) → passes (if cell && used then Deny Quota else Pass why) ≡ true → cell ≡ true → used ≡ false
    by_test true true pass is = absurd cc
    by_test true false pass is = refl
    by_test false used pass is = absurd cc
quota_left kind at records (Deny why) pass is = absurd cc

-- such a write is recorded where fewer than 16 are
write_few : (kind : Kind) (at n value : ℕ) (records : RecordsState) (verdict : Verdict) → passes (with_quota kind at records verdict) ≡ true
    → AreFew records → AreFew (with_cell_write kind at n value records)
write_few kind at n value records verdict pass few = by_kind (is_cell_write kind at) (quota_left kind at records verdict pass)
  where
    by_kind : (cell : Bool) → (cell ≡ true → has_used_quota records ≡ false)
        → AreFew (
        if cell
        then record records { writes = records.writes ++ record { kind = kind; at = at; n = n; value = held_after kind n value } ∷ [] }
        else records
        )
    by_kind true left =
        let less : nat_le 16 (length records.writes) ≡ false = left refl in
        let long = length-append records.writes (record { kind = kind; at = at; n = n; value = held_after kind n value } ∷ []) in
        record { denials = few.denials; writes = grind (arith, nat_tests, less, long) }
    by_kind false left = few

either_few : (b : Bool) (one other : DomainState) → AreFew one.records → AreFew other.records → AreFew (if b then one else other).records
either_few true one other few more = few
either_few false one other few more = more

few_parts : KeepsParts (λ domain. AreFew domain.records)
few_parts = record {
  denial = λ denial domain few. denial_few denial (acting_of domain) few;
  write = λ kind at n value domain pass few.
      write_few kind at n value domain.records (verdict_in domain kind at n Write) pass few;
  clearing = λ at n domain pass few. few;
  pool = λ pool domain few. few;
  reserve = λ reserve domain few. few;
  handlers = λ registry domain few.
      either_few domain.tables.locked domain (record domain { tables = record domain.tables { registry = registry } }) few few;
  interfaces = λ protocols domain few.
      either_few domain.tables.locked domain (record domain { tables = record domain.tables { protocols = protocols } }) few few;
}

pub records_stay_few : RecordsStayFew
records_stay_few = calls_kept (λ domain. AreFew domain.records) few_parts

-- ---- tables

module _ (tables : TablesState) (locked : tables.locked ≡ true) where
  -- where the tables are locked, a change of the handlers or the interfaces is none
  unchanged : (domain other : DomainState) → HasTables tables domain → HasTables tables (if domain.tables.locked then domain else other)
  unchanged domain other has = by_lock domain.tables.locked (has.locked ∙ locked)
    where
      by_lock : (b : Bool) → b ≡ true → HasTables tables (if b then domain else other)
      by_lock true is = has
      by_lock false is = absurd cc

  -- what a step may change, and the records, aren't looked at
  acted_has : (domain : DomainState) (acting : Acting) → HasTables tables domain → HasTables tables (acted domain acting)
  acted_has domain acting has =
      record { site = has.site; registry = has.registry; protocols = has.protocols; locked = has.locked; pages = has.pages }

  tables_parts : KeepsParts (HasTables tables)
  tables_parts = record {
    denial = λ denial domain has. acted_has domain (with_denial denial (acting_of domain)) has;
    write = λ kind at n value domain pass has. acted_has domain (acting_of (after_write kind at n value domain)) has;
    clearing = λ at n domain pass has. acted_has domain (acting_of (after_clearing at n domain)) has;
    pool = λ pool domain has. acted_has domain (acting_of (with_pool pool domain)) has;
    reserve = λ reserve domain has. acted_has domain (acting_of (with_reserve reserve domain)) has;
    handlers = λ registry domain has.
        unchanged domain (record domain { tables = record domain.tables { registry = registry } }) has;
    interfaces = λ protocols domain has.
        unchanged domain (record domain { tables = record domain.tables { protocols = protocols } }) has;
  }

pub tables_stay_after_lock : TablesStayAfterLock
tables_stay_after_lock tables locked = calls_kept (HasTables tables) (tables_parts tables locked)
