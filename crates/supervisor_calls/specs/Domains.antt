-- A domain: what one invocation of one image may touch, and what its accesses to memory answer and leave.
use Rattle.std.specs.Prelude.{ℕ, ◌-◌, if◌then◌else◌, List, ◌++◌, replicate, slice_index, Result}
use Rattle.mm_base.specs.Numbers.{number_of}
use Rattle.mm_base.specs.Records.{RecordsState}
use Rattle.mm_base.specs.declared.access.Denial.{Denial}
use Rattle.mm_base.specs.declared.access.Kind.{Kind}
use Rattle.mm_base.specs.declared.access.Kind.TheVariants as kinds
use Rattle.mm_base.specs.declared.access.Right.{Right}
use Rattle.mm_base.specs.declared.access.Right.TheVariants as rights
use Rattle.mm_base.specs.declared.access.Verdict.{Verdict}
use Rattle.mm_base.specs.declared.bus.Target.{Target}
use Rattle.mm_base.specs.declared.cells.Saved.{Saved}
use Rattle.supervisor_calls.specs.Accesses.{Acting, decided, denial_of, bytes_at, answered, with_quota, changed, service_of, is_code, target_by}
use Rattle.supervisor_calls.specs.Tables.{TablesState}

-- What contracts see of a domain: the tables, whose image acts, the saved registers, and the records of this
-- invocation.
pub record DomainState : Type 0 where
  pub tables : TablesState
  pub image : ℕ
  pub saved : Saved
  pub records : RecordsState

-- the saved registers as an image sees them: 0 before lock
abbrev pub seen_registers : DomainState → Saved
seen_registers domain = if domain.tables.locked then domain.saved else record { 0 = replicate 19 0 }

-- the access that the processor was trapped at: the last of the saved registers; none before lock
abbrev pub trapped_of : DomainState → ℕ
trapped_of domain = if domain.tables.locked then slice_index domain.saved.0 18 else 0

-- what of a domain an access may change, and the domain with another such part
abbrev pub acting_of : DomainState → Acting
acting_of domain = record { live = domain.tables.live; records = domain.records }

abbrev pub acted : DomainState → Acting → DomainState
acted domain acting = record domain { tables = record domain.tables { live = acting.live }; records = acting.records }

abbrev pub with_acting : {A : Type 0} → DomainState → A × Acting → A × DomainState
with_acting domain told = (told.0, acted domain told.1)

-- the verdict on an access of a domain's image, and that on a write, whose number is limited for cells
abbrev pub verdict_in : DomainState → Kind → ℕ → ℕ → Right → Verdict
verdict_in domain kind at n right = decided domain.tables.site domain.image kind at n right (trapped_of domain)

abbrev pub write_verdict : DomainState → Kind → ℕ → ℕ → Verdict
write_verdict domain kind at n = with_quota kind at domain.records (verdict_in domain kind at n rights.Write)

-- what a fetch, a read and a write of n bytes at an address answer and leave
abbrev pub fetched : DomainState → ℕ → ℕ → Result (List ℕ) Denial × DomainState
fetched domain at n =
    let bytes = bytes_at domain.tables.live at n ++ replicate (18 - n) 0 in
    let verdict = verdict_in domain kinds.Memory at n rights.Execute in
    with_acting domain (answered verdict (denial_of kinds.Memory rights.Execute at n) bytes (acting_of domain))

abbrev pub read_at : DomainState → ℕ → ℕ → Result ℕ Denial × DomainState
read_at domain at n =
    let number = number_of (bytes_at domain.tables.live at n) in
    let verdict = verdict_in domain kinds.Memory at n rights.Read in
    with_acting domain (answered verdict (denial_of kinds.Memory rights.Read at n) number (acting_of domain))

abbrev pub written_at : DomainState → ℕ → ℕ → ℕ → Result (Unit {0}) Denial × DomainState
written_at domain at n value =
    with_acting domain (changed (write_verdict domain kinds.Memory at n) kinds.Memory at n value (acting_of domain))

-- what stands at the target of a native call
abbrev pub target_at : DomainState → ℕ → Target
target_at domain at =
    target_by (service_of domain.tables.site domain.image at)
    (is_code domain.tables.site domain.image (trapped_of domain) at)
