-- Closed groups get their share of each world that a run drives: the core that it begins with is sound.
use Rattle.std.proofs.Common.{◌≡◌, ℕ, zero, suc, ◌+◌, ◌<◌, List, [], ◌∷◌, length, Option, Some, None, refl, sym, ap, ◌∙◌, subst, arith}
use Rattle.std.specs.List.{slice_index_or}
use Rattle.comm_core.specs.Headline.{outcomes_in}
use Rattle.comm_core.specs.WorldState.{WorldState}
use Rattle.comm_core.specs.declared.script.Script.{Script}
use Rattle.mm_base.specs.declared.cells.CellWrite.{CellWrite}
use Rattle.mm_base.specs.declared.entry.Entry.{Entry}
use Rattle.mm_base.specs.declared.handler.Handler.{Handler}
use Rattle.mm_base.specs.declared.volume.File.{File}
use Rattle.mm_core.specs.Boots.{IsBoot}
use Rattle.mm_core.specs.CoreState.{CoreState, core_of_tables}
use Rattle.mm_core.specs.Scripted.{core_of_script, numbered, version_handler}
use Rattle.mm_core.specs.declared.booted.Boot.{Boot as BootValue}
use Rattle.mm_groups.proofs.ReplayLemmas.{shares_stand_alone}
use Rattle.mm_groups.specs.EntryLaws.{IsSound, shares_of}
use Rattle.mm_history.specs.History.{requests_of}
use Rattle.supervisor_calls.specs.Tables.{TablesState}
use Rattle.mm_run.specs.RunHeadline.{IsCoreOf, IsHeadlineOf, OfWorld}
use Rattle.mm_run.specs.RunShare.{IsSharedOut}
use Rattle.mm_run.specs.ScriptRun.{core_of}
use Rattle.mm_run.specs.ServeRun.{IsServedCore}
use Rattle.mm_run.specs.Sources.{NamedSource}
use Rattle.mm_run.specs.declared.command.Command.{Command}
use Rattle.mm_run.specs.declared.command.Command.TheVariants.{Script as ScriptCommand, Check, Boot, Serve}
use Rattle.mm_run.specs.declared.status.Status.{Status}

-- ---- the core of a script

-- each handler has the number of its place
number_is : (n : ℕ) (stubs : List Handler) (k : ℕ) (d : Handler) → k < length (numbered n stubs) → (slice_index_or (numbered n stubs) k d).number ≡ n + k
number_is n [] k d less = absurd (omega (arith, less))
number_is n (stub ∷ stubs) zero d less = omega arith
number_is n (stub ∷ stubs) (suc k) d less = number_is (n + 1) stubs k d (omega (arith, less)) ∙ omega arith

module _ (stubs : List Handler) where
  abbrev handlers : List Handler
  handlers = version_handler ∷ numbered 1 stubs

  place_is : (k : ℕ) (d : Handler) → k < length handlers → (slice_index_or handlers k d).number ≡ k
  place_is zero d less = refl
  place_is (suc k) d less = number_is 1 stubs k d (omega (arith, less)) ∙ omega arith

script_sound : (cells : List CellWrite) (stubs : List Handler) → IsSound (core_of_script cells stubs)
script_sound cells stubs = record {
  placed = λ k d less. absurd (omega (arith, less));
  numbered = record {
    rising = λ i j d before within. omega (arith, place_is stubs i d (omega (arith, before, within)), place_is stubs j d within, before);
    below = λ k d less. omega (arith, place_is stubs k d less, less);
  };
  whole = λ number image is. absurd cc;
}

-- ---- the core of a boot

boot_sound : (bytes : List ℕ) (files : List File) (cells : List CellWrite) (boot : BootValue) → IsBoot bytes files cells boot → IsSound boot.core
boot_sound bytes files cells boot is =
    let tables : TablesState = is.outcome.tables in
    let sound : IsSound (core_of_tables tables) = record {
      placed = is.booted.orderly.placed;
      numbered = is.booted.orderly.numbered;
      whole = λ number image there. record { memory = is.booted.orderly.memory; cells = is.all_cells };
    } in
    subst IsSound (sym (ap (λ (b : BootValue). b.core) is.leaves)) sound

-- ---- the core of a command

core_sound : (command : Command) (contents : List (List ℕ)) (script : Script) (core : CoreState) → IsCoreOf command contents script core → IsSound core
core_sound ScriptCommand contents script core is = subst IsSound (sym is) (script_sound script.opening.cells script.handlers)
core_sound Check contents script core is = absurd is
core_sound Boot contents script core is = absurd is
core_sound Serve contents script core is =
    subst IsSound (sym is.is)
    (boot_sound is.served.bytes is.booting.volume.files script.opening.cells is.booting.boot is.served.boots.boot_is)

-- the headline gives the shares
shared_out : (command : Command) (all : List NamedSource) (before now : Option (List ℕ)) (status : Status) (world : WorldState CoreState)
    → IsHeadlineOf command all before now status world → IsSharedOut command all world
shared_out command all before now status world headline = record {
  script = headline.script;
  core = headline.core;
  drives = headline.drives;
  apart = λ group closed.
      ap (λ (entries : List Entry). shares_of group headline.core.site (outcomes_in entries)) headline.says.one_thread
      ∙ shares_stand_alone group headline.core (requests_of world.entries)
      (core_sound command headline.drives.contents headline.script headline.core headline.drives.core_is) closed;
}

pub shared_by : (command : Command) (all : List NamedSource) (before now : Option (List ℕ)) (status : Status) (world : Option (WorldState CoreState))
    → OfWorld (IsHeadlineOf command all before now status) world → OfWorld (IsSharedOut command all) world
shared_by command all before now status None holds = holds
shared_by command all before now status (Some world) holds = shared_out command all before now status world holds
