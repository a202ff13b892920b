-- The boot of a volume: its drivers are started in rounds, under its policy, and then all is locked.
use Rattle.std.specs.Prelude.{◌≡◌, ℕ, ◌+◌, ◌≤◌, ◌==◌, Bool, true, not, List, [], ◌∷◌, ◌++◌, length, map, filter, Option, Some, None, slice_get}
use Rattle.std.specs.List.{list_any}
use Rattle.std.specs.Option.{option_map_or}
use Rattle.depex.specs.Expressions.{Expression}
use Rattle.dispatcher.specs.Rounds.{after_starts, all_starts}
use Rattle.dispatcher.specs.declared.driver.Driver.{Driver}
use Rattle.dispatcher.specs.declared.driver.Started.{Started}
use Rattle.driver_start.specs.Hosts.{HostState, opening_host}
use Rattle.driver_start.specs.Starts.{Loadable, IsLoadable, started}
use Rattle.driver_start.specs.declared.record.StartRecord.{StartRecord}
use Rattle.driver_start.specs.declared.starting.StartEnd.{StartEnd}
use Rattle.file_words.specs.Catalog.{AreWords}
use Rattle.file_words.specs.CatalogLaws.{started_of}
use Rattle.file_words.specs.Parts.{data_of, HasParts, IsExpressionIn}
use Rattle.file_words.specs.declared.driver_parts.DriverParts.{DriverParts}
use Rattle.file_words.specs.declared.file_word.FileWord.{FileWord}
use Rattle.mm_base.specs.Records.{RecordsState}
use Rattle.mm_base.specs.declared.cells.CellWrite.{CellWrite}
use Rattle.mm_base.specs.declared.guid.Guid.{Guid}
use Rattle.mm_base.specs.declared.policy.Policy.{Policy}
use Rattle.mm_base.specs.declared.volume.File.{File}
use Rattle.protocol_db.specs.Rows.{is_of_guid}
use Rattle.supervisor_calls.specs.Tables.{TablesState}
use Rattle.supervisor_calls.specs.Within.{IsOrderly}
use Rattle.volume_policy.specs.PolicyFiles.{IsVolumePolicy}

-- ---- drivers

-- a driver of a volume: its dependency expression, if it has one, and what is loaded of it
pub record BootDriver : Type 0 where
  pub depex : Option Expression
  pub loadable : Loadable

-- This is the driver of a file: it has the file's name, its first image, and its first dependency expression, if there is one.
pub record IsBootDriver (bytes : List ℕ) (file : File) (driver : BootDriver) : Type 0 where
  pub parts : DriverParts
  pub has : HasParts bytes file parts
  pub depex : IsExpressionIn bytes parts.depex driver.depex
  pub loadable :
      IsLoadable (record { name = file.name; bytes = data_of bytes parts.section; image = parts.image })
      driver.loadable

-- These are the drivers of files, in their order.
abbrev pub AreBootDrivers : List ℕ → List File → List BootDriver → Type 0
AreBootDrivers bytes [] drivers = drivers ≡ []
AreBootDrivers bytes (file ∷ files) drivers =
    (driver : BootDriver) × ((others : List BootDriver)
    × ((drivers ≡ driver ∷ others) × (IsBootDriver bytes file driver × AreBootDrivers bytes files others)))

-- what is loaded of drivers
abbrev pub loadables : List BootDriver → List Loadable
loadables drivers = map (λ driver. driver.loadable) drivers

-- drivers as rounds know them: by numbers that rise by 1 from this one on, by name and by expression
abbrev pub numbered_from : ℕ → List BootDriver → List Driver
numbered_from number [] = []
numbered_from number (driver ∷ drivers) =
    record { index = number; name = driver.loadable.name; depex = driver.depex } ∷ numbered_from (number + 1) drivers

-- ---- starts

-- a boot under way: the host, and the records of the starts so far
pub record BootState : Type 0 where
  pub host : HostState
  pub starts : List StartRecord

-- whether a protocol is installed
abbrev pub is_installed : BootState → Guid → Bool
is_installed state guid = list_any (is_of_guid guid) state.host.tables.protocols.rows

-- the record of a start that ended so
abbrev pub record_of : Guid → ℕ → StartEnd × RecordsState → StartRecord
record_of name round end =
    record { name = name; round = round; ended = end.0; denials = end.1.denials; writes = end.1.writes }

-- a boot with one more start
abbrev pub with_start : ℕ → BootState → Loadable → BootState
with_start round state driver =
    let ran = started driver state.host in
    record { host = ran.1; starts = state.starts ++ record_of driver.name round ran.0 ∷ [] }

-- the start of the driver of a number, in a round
abbrev pub start_of : List Loadable → BootState → ℕ → ℕ → BootState
start_of drivers state number round = option_map_or (with_start round state) (slice_get drivers number) state

-- ---- the boot

-- whether the driver of a number was started
abbrev pub was_started : List Started → ℕ → Bool
was_started starts number = list_any (λ start. start.index == number) starts

-- the names of the drivers that never were, in volume order
abbrev pub waiting_of : List Started → List Driver → List Guid
waiting_of starts drivers = map (λ driver. driver.name) (filter (λ driver. not (was_started starts driver.index)) drivers)

-- tables after the lock: no handler and no interface comes or goes any more
abbrev pub locked : TablesState → TablesState
locked tables = record tables {
  registry = record tables.registry { frozen = true };
  protocols = record tables.protocols { frozen = true };
  locked = true;
}

-- what a boot leaves: the tables, the records of its starts in order, and the names of the drivers that wait
pub record BootOutcome : Type 0 where
  pub tables : TablesState
  pub starts : List StartRecord
  pub waiting : List Guid

-- A boot from a host on: the starts of all rounds, in order; then the lock.
unfoldable pub boot_from : List Driver → List Loadable → HostState → BootOutcome
boot_from drivers loaded host =
    let opening : BootState = record { host = host; starts = [] } in
    let starts = all_starts is_installed (start_of loaded) drivers opening in
    let last = after_starts (start_of loaded) starts opening in
    record { tables = locked last.host.tables; starts = last.starts; waiting = waiting_of starts drivers }

-- Tables after a boot: they are locked, all is in its place in them, and there are 512 interfaces at most, 16 for each of 32 images.
pub record AreBooted (tables : TablesState) : Type 0 where
  pub locked : tables.locked ≡ true
  pub orderly : IsOrderly tables
  pub few : length tables.protocols.rows ≤ 512

-- the policy where a volume has no policy file: no rules, and fuel of 65,536
abbrev pub default_policy : Policy
default_policy = record { rules = []; fuel = 65536 }

-- the policy of a volume, or its default
abbrev pub policy_or_default : Option Policy → Policy
policy_or_default None = default_policy
policy_or_default (Some policy) = policy

-- The boot of a volume with these files, whose cells hold this at the opening, comes to this: the files that are drivers in EFI Byte Code
-- are started in rounds, from a host without images, with zeros in memory, under the volume's policy or its default.
pub record IsBootOf (bytes : List ℕ) (files : List File) (cells : List CellWrite) (outcome : BootOutcome) : Type 0 where
  pub policy : Option Policy
  pub policy_is : IsVolumePolicy bytes files policy
  pub words : List FileWord
  pub words_are : AreWords bytes files words
  pub drivers : List BootDriver
  pub drivers_are : AreBootDrivers bytes (started_of files words) drivers
  pub is :
      outcome ≡ boot_from (numbered_from 0 drivers) (loadables drivers) (opening_host (policy_or_default policy) cells)
