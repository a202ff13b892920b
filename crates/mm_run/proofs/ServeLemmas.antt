-- What a run of `serve` comes to, which has two sources.
use Rattle.std.proofs.Common.{◌≡◌, ◌⊎◌, inl, inr, ℕ, ◌+◌, All, Bool, List, [], ◌∷◌, length, false, Some, Option, Result, Ok, Err, IfErr, refl, sym, ap, ◌∙◌, subst}
use Rattle.std.specs.Result.{IsErrAnd}
use Rattle.mm_base.specs.End.{EndsBy, out_of_memory}
use Rattle.mm_base.specs.declared.end.End.{End}
use Rattle.mm_base.specs.declared.end.End.TheVariants as end
use Rattle.mm_base.specs.declared.entry.Entry.{Entry}
use Rattle.mm_io.specs.Streams.{Appends, AppendsFront}
use Rattle.comm_core.specs.Capture.{pieces_in}
use Rattle.comm_core.specs.WorldPast.{StandsForEvents}
use Rattle.comm_core.specs.declared.script.Script.{Script}
use Rattle.mm_base.specs.declared.policy.Policy.{Policy}
use Rattle.mm_base.specs.declared.volume.Volume.{Volume}
use Rattle.mm_run.proofs.ScriptLemmas.{driven_is}
use Rattle.mm_run.specs.declared.serve_run.BootParts.{BootParts}
use Rattle.comm_core.specs.WorldState.{WorldState, lane_values}
use Rattle.comm_core.proofs.HeadlineLemmas.{pieces_told, headline_of}
use Rattle.mm_core.specs.CoreState.{CoreState}
use Rattle.mm_core.specs.EntryStep.{core_step}
use Rattle.mm_core.specs.MachineLemmas.{core_step-within}
use Rattle.mm_groups.specs.Closed.{AreAloneClosed}
use Rattle.mm_run.proofs.BootLemmas.{flags_beside}
use Rattle.mm_run.proofs.RunLemmas.{good_not_bad, refused_bytes, shown_by, stop_bad, stop_good, stop_not_usage, stop_writes_nothing}
use Rattle.mm_run.specs.Run.{Reports}
use Rattle.mm_run.specs.RunHeadline.{Drives, IsHeadlineOf, OfWorld}
use Rattle.mm_run.specs.RunInside.{both_sources, IsDriven, RefusesBytes}
use Rattle.mm_run.specs.RunWorld.{StandsForScript}
use Rattle.mm_run.specs.ScriptRun.{past_of, run_report}
use Rattle.mm_run.specs.ServeInside.{IsBootedFor, IsDrivenFrom, IsMadeOfBoth, IsServedBy, parts_report}
use Rattle.file_words.specs.Catalog.{AreWords}
use Rattle.file_words.specs.declared.file_word.FileWord.{FileWord}
use Rattle.mm_core.specs.Boots.{IsBoot}
use Rattle.mm_core.specs.declared.booted.Boot.{Boot}
use Rattle.mm_run.specs.BootRun.{locked_in}
use Rattle.mm_run.specs.ServeRun.{served_report}
use Rattle.mm_text.specs.Refusal.{IsFault}
use Rattle.mm_text.specs.declared.parts.Locked.{Locked}
use Rattle.mm_text.specs.declared.text_end.TextFault.{TextFault}
use Rattle.volume_policy.specs.PolicyFiles.{IsVolumePolicy}
use Rattle.volume_reader.specs.VolumeGrammar.{IsVolume}
use Rattle.mm_run.specs.Sources.{AllHoldGood, FirstBad, NamedSource, RunStops, Seen, WasGood, WasRead, source}
use Rattle.mm_run.specs.Status.{status_of_text, writes}
use Rattle.mm_run.specs.declared.command.Command.TheVariants.{Serve}
use Rattle.mm_run.specs.declared.made.Made.{Made}
use Rattle.mm_run.specs.declared.source_kind.SourceKind.TheVariants.{VolumeBytes, EventsText}
use Rattle.mm_run.specs.declared.status.Status.{Status}
use Rattle.mm_run.specs.declared.status.Status.TheVariants.{Done, NoMemory, Usage, WriteFault}
use Rattle.mm_run.specs.declared.status.Which.TheVariants.{First, Second}

-- ---- how sources stop a run

pub run_writes_nothing : (all : List NamedSource) (Rest : Type 0) (status : Status) → RunStops all Rest status → writes status ≡ false
run_writes_nothing [] Rest status stop = ap writes stop
run_writes_nothing (s ∷ rest) Rest status (inl stop) = stop_writes_nothing s status stop.0
run_writes_nothing (s ∷ rest) Rest status (inr later) = run_writes_nothing rest (Unit {0}) status later.1

pub run_not_usage : (all : List NamedSource) (Rest : Type 0) (status : Status) → RunStops all Rest status → status ≡ Usage → ⊥
run_not_usage [] Rest status stop e = let u : NoMemory out_of_memory ≡ Usage = sym stop ∙ e in cc
run_not_usage (s ∷ rest) Rest status (inl stop) e = stop_not_usage s status stop.0 e
run_not_usage (s ∷ rest) Rest status (inr later) e = run_not_usage rest (Unit {0}) status later.1 e

-- all that holds good stops out of memory alone
pub run_good : (all : List NamedSource) (Rest : Type 0) (status : Status) → RunStops all Rest status → AllHoldGood all
    → status ≡ NoMemory out_of_memory
run_good [] Rest status stop good = stop
run_good (s ∷ rest) Rest status (inl stop) good = stop_good s status stop.0 good.0
run_good (s ∷ rest) Rest status (inr later) good = run_good rest (Unit {0}) status later.1 good.1

-- the first that is to be refused is refused for that
pub run_bad : (all : List NamedSource) (Rest : Type 0) (status fault : Status) → RunStops all Rest status → FirstBad all fault
    → (status ≡ fault) ⊎ (status ≡ NoMemory out_of_memory)
run_bad [] Rest status fault stop bad = absurd bad
run_bad (s ∷ rest) Rest status fault (inl stop) (inl bad) = stop_bad s status fault stop.0 bad
run_bad (s ∷ rest) Rest status fault (inl stop) (inr later) = inr (stop_good s status stop.0 later.0)
run_bad (s ∷ rest) Rest status fault (inr went) (inl bad) = absurd (good_not_bad s fault went.0 bad)
run_bad (s ∷ rest) Rest status fault (inr went) (inr later) = run_bad rest (Unit {0}) status fault went.1 later.1

-- ---- both sources

-- the first stops the run, and the second is as it was
pub first_stops : (first second : Seen) (Rest : Type 0) (bytes : List ℕ) (status : Status) → WasRead (source First VolumeBytes first) bytes
    → RefusesBytes VolumeBytes bytes status → Rest → RunStops (both_sources first second) Rest status
first_stops first second Rest bytes status read refused rest =
    inl (refused_bytes (source First VolumeBytes first) bytes status read refused, rest)

module _ (first second : Seen) (made : Made) (m : IsMadeOfBoth first second made) where
  good_first : WasGood (source First VolumeBytes first)
  good_first = record {
    bytes = m.bytes;
    read = m.read;
    good = record {
      volume = m.whole.served.booting.volume;
      is = m.whole.served.boots.is;
      policy = m.whole.served.booting.policy;
      policy_is = m.whole.served.boots.policy_is;
    };
  }

  good_second : WasGood (source Second EventsText second)
  good_second = record { bytes = m.whole.events; read = m.whole.read; good = record { script = m.whole.script; is = m.whole.says } }

  -- nothing was made of sources of which one is to be refused
  pub both_not_bad : (fault : Status) → FirstBad (both_sources first second) fault → ⊥
  both_not_bad fault (inl bad) = good_not_bad (source First VolumeBytes first) fault good_first bad
  both_not_bad fault (inr (held, inl bad)) = good_not_bad (source Second EventsText second) fault good_second bad
  both_not_bad fault (inr (held, inr more)) = more.1

  -- what was made is the report of what the sources gave
  pub both_report : (IsDoneWith : List ℕ → Type 0) → IsDoneWith made.text → Reports Serve (both_sources first second) IsDoneWith
  both_report IsDoneWith done =
      let served = m.whole.served in
      record {
        contents = m.bytes ∷ m.whole.events ∷ [];
        read = (m.read, (m.whole.read, tt));
        text = made.text;
        is = record {
          script = m.whole.script;
          booting = served.booting;
          served = record { bytes = m.bytes; events = m.whole.events; given = refl; says = m.whole.says; boots = served.boots };
          reported = served.reported ∙ (λ i. served_report served.booting (served.driven.entries i) (served.driven.lanes i));
        };
        done = done;
      }

  both_drive : Drives Serve (both_sources first second) m.whole.script m.whole.served.booting.boot.core
  both_drive = record {
    contents = m.bytes ∷ m.whole.events ∷ [];
    read = (m.read, (m.whole.read, tt));
    script_is = record { bytes = m.bytes; events = m.whole.events; given = refl; says = m.whole.says };
    core_is = record {
      booting = m.whole.served.booting;
      served = record { bytes = m.bytes; events = m.whole.events; given = refl; says = m.whole.says; boots = m.whole.served.boots };
      is = refl;
    };
  }

  -- the world that was made stands for the script's events
  pub both_stand : OfWorld (StandsForScript Serve (both_sources first second)) made.world
  both_stand =
      let Q : Option (WorldState CoreState) → Type 0 = OfWorld (StandsForScript Serve (both_sources first second)) in
      let served = m.whole.served in
      let driven = served.driven in
      let core = served.booting.boot.core in
      let stood : StandsForScript Serve (both_sources first second) served.world = record {
        script = m.whole.script;
        core = core;
        drives = both_drive;
        stands = driven.stands;
        words = driven.words;
        trace = driven.trace;
        pieces_are = λ lane. ap (pieces_in lane) driven.trace ∙ pieces_told lane (past_of core m.whole.script);
        entries = driven.entries;
        lanes = driven.lanes;
      } in
      subst Q (sym served.there) stood

  -- and it has the headline, where its report was written or a front of it
  pub both_headline : (before now : Option (List ℕ)) (status : Status)
      → (status ≡ Done) ⊎ (status ≡ WriteFault)
      → (status ≡ Done → Appends before now made.text)
      → (status ≡ WriteFault → AppendsFront before now made.text)
      → OfWorld (IsHeadlineOf Serve (both_sources first second) before now status) made.world
  unfolding both_drive
  both_headline before now status ends done front =
      let Q : Option (WorldState CoreState) → Type 0 = OfWorld (IsHeadlineOf Serve (both_sources first second) before now status) in
      let served = m.whole.served in
      let core = served.booting.boot.core in
      let says : IsHeadlineOf Serve (both_sources first second) before now status served.world = record {
        script = m.whole.script;
        core = core;
        drives = both_drive;
        says =
            headline_of core_step core m.whole.script.events served.world
            (λ core request. (core_step-within core request).reply) served.driven.stands;
        text = made.text;
        reported = record {
          booting = served.booting;
          served = record { bytes = m.bytes; events = m.whole.events; given = refl; says = m.whole.says; boots = served.boots };
          is = refl;
          reported = served.reported;
        };
        shown = shown_by before now status made.text ends done front;
      } in
      subst Q (sym served.there) says

-- ---- a world that was driven from the core of a boot

pub driven_so : (core : CoreState) (script : Script) (volume : Volume) (policy : Option Policy) (parts : BootParts) (w : WorldState CoreState)
    (entries : List Entry) (copied : List (List ℕ)) (text : List ℕ) → w.words ≡ script.words → length w.lanes ≡ script.lanes
    → copied ≡ lane_values w.lanes → All (λ lane. length lane ≡ w.words + 2) copied → StandsForEvents core_step core script.events w
    → entries ≡ w.entries → text ≡ parts_report volume policy parts entries copied
    → IsDrivenFrom core script volume policy parts (record { world = Some w; text = text })
driven_so core script volume policy parts w entries copied text words lanes values sizes stands entries_are told =
    let P : List (List ℕ) → Type 0 = λ ls. All (λ lane. length lane ≡ w.words + 2) ls in
    record {
      world = w;
      there = refl;
      driven =
          driven_is core script w (lane_values w.lanes) (run_report w.entries (lane_values w.lanes)) words lanes refl (subst P values sizes) stands refl;
      reported = told ∙ (λ i. parts_report volume policy parts (entries_are i) (values i));
    }

-- the report and the world of a boot's core are those of `serve`
pub served_so : (bytes : List ℕ) (volume : Volume) (policy : Option Policy) (script : Script) (core : CoreState) (parts : BootParts) (made : Made)
    → IsBootedFor bytes volume policy script core parts → IsDrivenFrom core script volume policy parts made → IsServedBy bytes script made
served_so bytes volume policy script core parts made booted driven =
    let report : List ℕ = run_report driven.world.entries (lane_values driven.world.lanes) in
    record {
      booting = booted.booting;
      boots = booted.boots;
      world = driven.world;
      there = driven.there;
      driven = subst (λ (c : CoreState). IsDriven c script driven.world report) booted.core_is driven.driven;
      reported = driven.reported ∙ booted.told driven.world.entries (lane_values driven.world.lanes);
    }

-- what tells of a boot tells of its report
pub booted_so : (bytes : List ℕ) (volume : Volume) (policy : Option Policy) (script : Script) (words : List FileWord) (boot : Boot) (locked : Locked)
    (closed : List Bool) → IsVolume bytes volume → AreWords bytes volume.files words → IsVolumePolicy bytes volume.files policy
    → IsBoot bytes volume.files script.opening.cells boot → length words ≡ length volume.files → locked ≡ locked_in boot.core
    → AreAloneClosed boot.core.site closed
    → IsBootedFor bytes volume policy script boot.core
    (record { words = words; starts = boot.starts; waiting = boot.waiting; locked = locked; closed = closed })
booted_so bytes volume policy script words boot locked closed is words_are policy_is boot_is each locked_is closed_are = record {
  booting = record { volume = volume; words = words; policy = policy; boot = boot; closed = closed };
  boots = record { is = is; words_are = words_are; policy_is = policy_is; boot_is = boot_is; closed_are = closed_are };
  each = each;
  flags = flags_beside boot.core locked closed locked_is closed_are;
  core_is = refl;
  told = λ entries lanes i.
      parts_report volume policy
      (record { words = words; starts = boot.starts; waiting = boot.waiting; locked = locked_is i; closed = closed }) entries lanes;
}

-- ---- what a result tells

pub err_told : {A : Type 0} (result : Result A Status) (status : Status) (P : Status → Type 0) → IsErrAnd result (λ told. told ≡ status)
    → P status → IfErr result P
err_told (Ok made) status P told p = tt
err_told (Err other) status P told p = subst P (sym told) p

-- a text that was refused
pub text_refused : (bytes : List ℕ) (end_of : End TextFault) → EndsBy (IsFault false bytes) end_of
    → RefusesBytes EventsText bytes (status_of_text end_of)
text_refused bytes (end.Fault fault) has = inl (record { fault = fault; has = has; status_is = refl })
text_refused bytes (end.NoMemory refused) has = inr refl

-- the first source was good, and the second stops the run
pub later_stops : {A : Type 0} (first second : Seen) (Rest : Type 0) (result : Result A Status) → WasGood (source First VolumeBytes first)
    → IfErr result (RunStops (source Second EventsText second ∷ []) (Unit {0}))
    → IfErr result (RunStops (both_sources first second) Rest)
later_stops first second Rest (Ok made) good told = tt
later_stops first second Rest (Err status) good told = inr (good, told)
