-- What a run of the program makes of a script.
use Rattle.std.specs.Prelude.{◌≡◌, ℕ, zero, suc, ◌+◌, List, [], ◌∷◌, map, true, Some}
use Rattle.std.specs.List.{range_with_len}
use Rattle.mm_base.specs.Replay.{replayed}
use Rattle.mm_base.specs.declared.entry.Entry.{Entry}
use Rattle.comm_core.specs.Capture.{Mark, course, requests, value_at}
use Rattle.comm_core.specs.declared.script.Script.{Script}
use Rattle.mm_core.specs.CoreState.{CoreState}
use Rattle.mm_core.specs.EntryStep.{core_step}
use Rattle.mm_core.specs.Scripted.{core_of_script}
use Rattle.mm_text.specs.Report.{report_of, nothing_reported}
use Rattle.mm_text.specs.ScriptText.{IsScript}

-- the core of a script: the version handler, the script's stubs, and its opening cells
abbrev pub core_of : Script → CoreState
core_of script = core_of_script script.opening.cells script.handlers

-- all that a script makes happen, from this core
unfoldable pub past_of : CoreState → Script → List Mark
past_of core script = course core_step core script.words script.events

-- the entries of a script: the captured requests with the outcomes of the one-thread core on them, in recorded order
unfoldable pub entries_of : CoreState → Script → List Entry
entries_of core script = replayed core_step core (requests (past_of core script))

-- the values of n words of a lane from this one on
unfoldable pub values_from : ℕ → ℕ → ℕ → List Mark → List ℕ
values_from lane word zero past = []
values_from lane word (suc n) past = value_at lane word past ∷ values_from lane (word + 1) n past

-- the last values of all words of each lane
unfoldable pub lanes_of : CoreState → Script → List (List ℕ)
lanes_of core script =
    map (λ lane. values_from lane 0 (script.words + 2) (past_of core script)) (range_with_len 0 script.lanes)

-- the report of entries and lanes
abbrev pub run_report : List Entry → List (List ℕ) → List ℕ
run_report entries lanes =
    report_of (record nothing_reported { entries = Some entries; lanes = Some lanes })

-- the report of a script that is run from this core
unfoldable pub report_for : CoreState → Script → List ℕ
report_for core script = run_report (entries_of core script) (lanes_of core script)

-- The report of `script` for what its one source gave: that of the script which these bytes spell, from its core.
pub record IsScriptReport (contents : List (List ℕ)) (text : List ℕ) : Type 0 where
  pub bytes : List ℕ
  pub given : contents ≡ bytes ∷ []
  pub script : Script
  pub says : IsScript true bytes script
  pub reported : text ≡ report_for (core_of script) script

-- What `script` is given is the text of this script.
pub record IsTextOf (contents : List (List ℕ)) (script : Script) : Type 0 where
  pub bytes : List ℕ
  pub given : contents ≡ bytes ∷ []
  pub says : IsScript true bytes script
