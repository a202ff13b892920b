-- No public clause cites this file.
-- What the steps of a boot pass on.
use Rattle.std.specs.Prelude.{◌≡◌, ℕ, ◌<◌, Bool, false, if◌then◌else◌, List, [], ◌∷◌, map, length, All, Option}
use Rattle.std.specs.Option.{option_map, option_map_or}
use Rattle.depex.specs.Expressions.{Expression}
use Rattle.dispatcher.specs.declared.driver.Driver.{Driver}
use Rattle.driver_start.specs.Hosts.{HostState}
use Rattle.driver_start.specs.Starts.{DriverState}
use Rattle.driver_start.specs.Forms.{loadable_of}
use Rattle.driver_start.specs.declared.record.StartRecord.{StartRecord}
use Rattle.file_words.specs.CatalogLaws.{is_started_word}
use Rattle.file_words.specs.Parts.{data_of, HasParts, IsExpressionIn}
use Rattle.file_words.specs.declared.driver_parts.DriverParts.{DriverParts}
use Rattle.file_words.specs.declared.file_word.FileWord.{FileWord}
use Rattle.mm_base.specs.declared.guid.Guid.{Guid}
use Rattle.mm_base.specs.declared.volume.File.{File}
use Rattle.pe_loader.specs.Images.{IsImageOf}
use Rattle.volume_boot.specs.Boots.{BootDriver, BootState, is_installed, numbered_from, start_of}

-- ---- drivers

-- what was found of a driver: its dependency expression, if it has one, and the driver that is started
pub record FoundDriver : Type 0 where
  pub depex : Option Expression
  pub loaded : DriverState

-- This was found of a file.
pub record IsFound (bytes : List ℕ) (file : File) (found : FoundDriver) : Type 0 where
  pub parts : DriverParts
  pub has : HasParts bytes file parts
  pub depex : IsExpressionIn bytes parts.depex found.depex
  pub loaded : found.loaded ≡ record { name = file.name; bytes = data_of bytes parts.section; image = parts.image }

-- This was found of files, in their order.
abbrev pub AreFound : List ℕ → List File → List FoundDriver → Type 0
AreFound bytes [] found = found ≡ []
AreFound bytes (file ∷ files) found =
    (one : FoundDriver) × ((others : List FoundDriver)
    × ((found ≡ one ∷ others) × (IsFound bytes file one × AreFound bytes files others)))

-- the drivers that are started
abbrev pub loaded_in : List FoundDriver → List DriverState
loaded_in found = map (λ one. one.loaded) found

-- the same as a boot's drivers
abbrev pub boot_drivers : List FoundDriver → List BootDriver
boot_drivers found = map (λ one. record { depex = one.depex; loadable = loadable_of one.loaded }) found

-- The drivers of a volume are kept so of what was found: by what rounds know of each, and by what is started.
pub record Holds (found : List FoundDriver) (scheduled : List Driver) (loaded : List DriverState) : Type 0 where
  pub scheduled_are : scheduled ≡ numbered_from 0 (boot_drivers found)
  pub loaded_are : loaded ≡ loaded_in found

-- So these are kept of files.
pub record IsKept (bytes : List ℕ) (files : List File) (scheduled : List Driver) (loaded : List DriverState) : Type 0 where
  pub found : List FoundDriver
  pub are : AreFound bytes files found
  pub holds : Holds found scheduled loaded

-- the file, where its word is that of a driver that a boot starts
abbrev pub more_if : File → FileWord → List File
more_if file word = if is_started_word word then file ∷ [] else []

-- Each driver's number is below how many there are.
abbrev pub AreNumbered : List Driver → Type 0
AreNumbered drivers = All (λ driver. driver.index < length drivers) drivers

-- ---- the starter

-- what a starter knows: the drivers, and the boot under way, as long as memory wasn't refused
pub record StarterState : Type 0 where
  pub drivers : List DriverState
  pub boot : Option BootState

-- the boot, where the host is there
abbrev pub boot_with : Option HostState → List StartRecord → Option BootState
boot_with host starts = option_map (λ h. record { host = h; starts = starts }) host

-- whether a protocol is installed
abbrev pub is_known : StarterState → Guid → Bool
is_known state guid = option_map_or (λ boot. is_installed boot guid) state.boot false

-- the start of the driver of a number, in a round
abbrev pub after_start : StarterState → ℕ → ℕ → StarterState
after_start state number round =
    record state { boot = option_map (λ boot. start_of (map loadable_of state.drivers) boot number round) state.boot }

-- The bytes of a driver are its image.
abbrev pub IsSound : DriverState → Type 0
IsSound driver = IsImageOf driver.bytes driver.image
