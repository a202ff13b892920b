-- What a run comes to, for each command.
use Rattle.std.proofs.Common.{◌≡◌, ◌≤◌, ◌⊎◌, inl, inr, ℕ, List, [], ◌∷◌, ◌++◌, length, true, false, Some, None, Result, Ok, Err, IfErr, slice_get, refl, sym, ap, ◌∙◌, subst, arith}
use Rattle.std.proofs.lemmas.List.{append-nil, length-append}
use Rattle.std.proofs.lemmas.Option.{none-some, same_Some}
use Rattle.std.specs.Prelude.{String}
use Rattle.std.specs.declared.alloc.Global.{Global}
use Rattle.std.specs.declared.option.Option.{Option}
use Rattle.mm_base.specs.End.{out_of_memory}
use Rattle.mm_base.specs.declared.entry.Entry.{Entry}
use Rattle.mm_base.specs.declared.policy.PolicyFault.{PolicyFault}
use Rattle.mm_base.specs.declared.volume.Volume.{Volume}
use Rattle.mm_io.specs.Streams.{Appends, AppendsFront, Gives, GivesAll, GivesMoreThan, HasMoreThan, IsUsedUp}
use Rattle.comm_core.specs.Capture.{pieces_in}
use Rattle.comm_core.specs.WorldState.{WorldState, lane_values}
use Rattle.comm_core.proofs.HeadlineLemmas.{pieces_told, headline_of}
use Rattle.mm_core.specs.CoreState.{CoreState}
use Rattle.mm_core.specs.EntryStep.{core_step}
use Rattle.mm_core.specs.MachineLemmas.{core_step-within}
use Rattle.mm_text.specs.declared.text_end.TextFault.{TextFault}
use Rattle.mm_text.proofs.TextLemmas.{never-both, fault-unique}
use Rattle.volume_reader.specs.declared.volume_fault.VolumeFault.{VolumeFault}
use Rattle.volume_reader.proofs.Offered.{never_volume_and_fault, one_volume, one_volume_fault}
use Rattle.volume_policy.specs.PolicyFiles.{HasVolumePolicyFault}
use Rattle.volume_policy.proofs.Offered.{never_policy_and_fault, one_policy_fault}
use Rattle.mm_run.specs.Command.{command_of, drives}
use Rattle.mm_run.specs.Run.{IsReport, Reports, Shows, Whole, Front}
use Rattle.mm_run.specs.RunHeadline.{Drives, IsHeadlineOf, OfWorld}
use Rattle.mm_run.specs.RunWorld.{StandsForScript}
use Rattle.mm_run.specs.RunInside.{both_sources, HasOneSource, one_kind, one_source, IsMadeOfScript, IsMadeOf, IsMade, RefusesBytes}
use Rattle.mm_run.specs.ScriptRun.{core_of, past_of, lanes_of, run_report, report_for}
use Rattle.mm_run.specs.SourceKinds.{most_of, IsGoodAs, IsFaultyAs}
use Rattle.mm_run.specs.Sources.{Seen, NamedSource, sources, sources_of, sources_named, HasFailed, WasRead, WasGood, StopsRun, Unreadable, Long, Faulty, Wanting, HoldsGood, AllHoldGood, HoldsFault, HoldsBad, FaultHeld, TooMuchHeld, FirstBad, OthersAreUntouched}
use Rattle.mm_run.specs.Status.{writes}
use Rattle.mm_run.specs.declared.command.Command.{Command}
use Rattle.mm_run.specs.declared.command.Command.TheVariants.{Script as ScriptCommand, Check, Boot, Serve}
use Rattle.mm_run.specs.declared.made.Made.{Made}
use Rattle.mm_run.specs.declared.source_kind.SourceKind.{SourceKind}
use Rattle.mm_run.specs.declared.source_kind.SourceKind.TheVariants.{ScriptText, VolumeBytes, EventsText}
use Rattle.mm_run.specs.declared.status.BadKind.TheVariants.{Volume as VolumeIsBad, Policy as PolicyIsBad}
use Rattle.mm_run.specs.declared.status.Status.{Status}
use Rattle.mm_run.specs.declared.status.Status.TheVariants.{Done, Usage, BadVolume, BadText, ReadFault, WriteFault, TooLong, NoMemory}

-- ---- what bytes tell

-- good bytes have no fault
never_faulty : (kind : SourceKind) (bytes : List ℕ) (status : Status) → IsGoodAs kind bytes → IsFaultyAs kind bytes status → ⊥
never_faulty ScriptText bytes status good bad = never-both true bytes good.script bad.fault good.is bad.has
never_faulty EventsText bytes status good bad = never-both false bytes good.script bad.fault good.is bad.has
never_faulty VolumeBytes bytes status good (inl bad) = never_volume_and_fault bytes good.volume bad.fault good.is bad.has
never_faulty VolumeBytes bytes status good (inr bad) =
    let P : Volume → Type 0 = λ volume. HasVolumePolicyFault bytes volume.files bad.fault in
    never_policy_and_fault bytes good.volume.files good.policy bad.fault good.policy_is
    (subst P (one_volume bytes bad.volume good.volume bad.is good.is) bad.has)

-- and bytes have one first fault
one_fault : (kind : SourceKind) (bytes : List ℕ) (one other : Status)
    → IsFaultyAs kind bytes one
    → IsFaultyAs kind bytes other
    → one ≡ other
one_fault ScriptText bytes one other a b =
    a.status_is
    ∙ ap (λ (fault : TextFault). BadText fault.line fault.kind) (fault-unique true bytes a.fault b.fault a.has b.has)
    ∙ sym b.status_is
one_fault EventsText bytes one other a b =
    a.status_is
    ∙ ap (λ (fault : TextFault). BadText fault.line fault.kind) (fault-unique false bytes a.fault b.fault a.has b.has)
    ∙ sym b.status_is
one_fault VolumeBytes bytes one other (inl a) (inl b) =
    a.status_is
    ∙ ap (λ (fault : VolumeFault). BadVolume fault.at (VolumeIsBad fault.kind)) (one_volume_fault bytes a.fault b.fault a.has b.has)
    ∙ sym b.status_is
one_fault VolumeBytes bytes one other (inl a) (inr b) = absurd (never_volume_and_fault bytes b.volume a.fault b.is a.has)
one_fault VolumeBytes bytes one other (inr a) (inl b) = absurd (never_volume_and_fault bytes a.volume b.fault a.is b.has)
one_fault VolumeBytes bytes one other (inr a) (inr b) =
    let P : Volume → Type 0 = λ volume. HasVolumePolicyFault bytes volume.files b.fault in
    let same : a.fault ≡ b.fault =
    one_policy_fault bytes a.volume.files a.fault b.fault a.has (subst P (one_volume bytes b.volume a.volume b.is a.is) b.has) in
    a.status_is ∙ ap (λ (fault : PolicyFault). BadVolume fault.at (PolicyIsBad fault.kind)) same ∙ sym b.status_is

-- a fault is no status that writes, and not that of faulty words
fault_writes_nothing : (kind : SourceKind) (bytes : List ℕ) (status : Status) → IsFaultyAs kind bytes status → writes status ≡ false
fault_writes_nothing ScriptText bytes status bad = ap writes bad.status_is
fault_writes_nothing EventsText bytes status bad = ap writes bad.status_is
fault_writes_nothing VolumeBytes bytes status (inl bad) = ap writes bad.status_is
fault_writes_nothing VolumeBytes bytes status (inr bad) = ap writes bad.status_is

fault_not_usage : (kind : SourceKind) (bytes : List ℕ) (status : Status) → IsFaultyAs kind bytes status → status ≡ Usage → ⊥
fault_not_usage ScriptText bytes status bad e =
    let u : BadText bad.fault.line bad.fault.kind ≡ Usage = sym bad.status_is ∙ e in cc
fault_not_usage EventsText bytes status bad e =
    let u : BadText bad.fault.line bad.fault.kind ≡ Usage = sym bad.status_is ∙ e in cc
fault_not_usage VolumeBytes bytes status (inl bad) e =
    let u : BadVolume bad.fault.at (VolumeIsBad bad.fault.kind) ≡ Usage = sym bad.status_is ∙ e in cc
fault_not_usage VolumeBytes bytes status (inr bad) e =
    let u : BadVolume bad.fault.at (PolicyIsBad bad.fault.kind) ≡ Usage = sym bad.status_is ∙ e in cc

-- what was made of bytes was made of good ones, and its text is their report
made_good : (command : Command) (bytes : List ℕ) (made : Made) → IsMadeOf command bytes made → IsGoodAs (one_kind command) bytes
made_good ScriptCommand bytes made of = record { script = of.script; is = of.says }
made_good Check bytes made of =
    record { volume = of.report.volume; is = of.report.is; policy = of.report.policy; policy_is = of.report.policy_is }
made_good Boot bytes made of =
    let report = of.report.report in
    record { volume = of.report.volume; is = of.report.is; policy = report.policy; policy_is = report.policy_is }
made_good Serve bytes made of = absurd of

made_report : (command : Command) (bytes : List ℕ) (made : Made) → IsMadeOf command bytes made → IsReport command (bytes ∷ []) made.text
made_report ScriptCommand bytes made of = record {
  bytes = bytes;
  given = refl;
  script = of.script;
  says = of.says;
  reported = of.by_script.driven.reported;
}
made_report Check bytes made of = record { bytes = bytes; given = refl; report = of.report }
made_report Boot bytes made of =
    record { bytes = bytes; given = refl; volume = of.report.volume; is = of.report.is; report = of.report.report }
made_report Serve bytes made of = absurd of

-- ---- what a source gave

-- what a source that tells gave is a front of what it had
given_front : (before now : Option (List ℕ)) (bytes given : List ℕ)
    → before ≡ Some bytes
    → Gives before now given
    → (rest : List ℕ) × ((now ≡ Some rest) × (bytes ≡ given ++ rest))
given_front None now bytes given e g = absurd (none-some bytes e)
given_front (Some left) None bytes given e g = absurd g
given_front (Some left) (Some rest) bytes given e g = (rest, (refl, sym (same_Some left bytes e) ∙ g))

given_all : (most : ℕ) (before now : Option (List ℕ)) (bytes given : List ℕ)
    → before ≡ Some bytes
    → GivesAll before now most given
    → bytes ≡ given
given_all most before now bytes given e all =
    let front = given_front before now bytes given e all.gives in
    let none : front.0 ≡ [] = subst IsUsedUp front.1.0 all.used_up in
    front.1.1 ∙ ap (λ rest. given ++ rest) none ∙ append-nil given

-- what a source holds that may be read isn't too long
not_long : (most : ℕ) (before now : Option (List ℕ)) (bytes : List ℕ)
    → before ≡ Some bytes
    → length bytes ≤ most
    → GivesMoreThan most before now
    → ⊥
not_long most before now bytes told within more =
    let front = given_front before now bytes more.0 told more.2 in
    omega (arith, more.1, within, ap length front.1.1, length-append more.0 front.0)

-- what was read to its end isn't too long
not_too_much : (most : ℕ) (before now : Option (List ℕ)) (given : List ℕ)
    → GivesAll before now most given
    → HasMoreThan most before
    → ⊥
not_too_much most None now given all more = more
not_too_much most (Some left) now given all more =
    omega (arith, more, all.within, ap length (given_all most (Some left) now left given refl all))

-- a refusal by bytes is one of the source that gave them
pub refused_bytes : (s : NamedSource) (bytes : List ℕ) (status : Status) → WasRead s bytes → RefusesBytes s.kind bytes status → StopsRun s status
refused_bytes s bytes status read (inl faulty) = Faulty bytes read faulty
refused_bytes s bytes status read (inr wanting) = Wanting (bytes, read.within, read.gives) wanting

pub refused_by_bytes : (s : NamedSource) (bytes told : List ℕ) (result : Result Made Status)
    → WasRead s bytes
    → told ≡ bytes
    → IfErr result (RefusesBytes s.kind told)
    → IfErr result (StopsRun s)
refused_by_bytes s bytes told (Ok made) read same r = tt
refused_by_bytes s bytes told (Err status) read same r =
    let P : List ℕ → Type 0 = λ bytes. RefusesBytes s.kind bytes status in
    refused_bytes s bytes status read (subst P same r)

-- ---- how a source stops a run

-- no refusal writes, and none is of the words
pub stop_writes_nothing : (s : NamedSource) (status : Status) → StopsRun s status → writes status ≡ false
stop_writes_nothing s status (Unreadable risen most is) = ap writes is
stop_writes_nothing s status (Long more is) = ap writes is
stop_writes_nothing s status (Faulty bytes read faulty) = fault_writes_nothing s.kind bytes status faulty
stop_writes_nothing s status (Wanting most is) = ap writes is

pub stop_not_usage : (s : NamedSource) (status : Status) → StopsRun s status → status ≡ Usage → ⊥
stop_not_usage s status (Unreadable risen most is) e = let u : ReadFault s.which ≡ Usage = sym is ∙ e in cc
stop_not_usage s status (Long more is) e = let u : TooLong s.which ≡ Usage = sym is ∙ e in cc
stop_not_usage s status (Faulty bytes read faulty) e = fault_not_usage s.kind bytes status faulty e
stop_not_usage s status (Wanting most is) e = let u : NoMemory out_of_memory ≡ Usage = sym is ∙ e in cc

-- good bytes that can be read stop a run out of memory alone
pub stop_good : (s : NamedSource) (status : Status) → StopsRun s status → HoldsGood s → status ≡ NoMemory out_of_memory
stop_good s status (Unreadable risen most is) h = absurd (h.calm risen)
stop_good s status (Long more is) h = absurd (not_long (most_of s.kind) s.seen.before s.seen.now h.bytes h.told h.within more)
stop_good s status (Faulty bytes read faulty) h =
    let P : List ℕ → Type 0 = λ bytes. IsGoodAs s.kind bytes in
    absurd (never_faulty s.kind bytes status
    (subst P (given_all (most_of s.kind) s.seen.before s.seen.now h.bytes bytes h.told read) h.good) faulty)
stop_good s status (Wanting most is) h = is

-- what is to be refused stops a run for that, or out of memory
stop_fault : (s : NamedSource) (status fault : Status)
    → StopsRun s status
    → (HasFailed s → ⊥)
    → HoldsFault s fault
    → (status ≡ fault) ⊎ (status ≡ NoMemory out_of_memory)
stop_fault s status fault (Unreadable risen most is) calm h = absurd (calm risen)
stop_fault s status fault (Long more is) calm h =
    absurd (not_long (most_of s.kind) s.seen.before s.seen.now h.bytes h.told h.within more)
stop_fault s status fault (Faulty bytes read faulty) calm h =
    let P : List ℕ → Type 0 = λ bytes. IsFaultyAs s.kind bytes fault in
    inl (one_fault s.kind bytes status fault faulty
    (subst P (given_all (most_of s.kind) s.seen.before s.seen.now h.bytes bytes h.told read) h.faulty))
stop_fault s status fault (Wanting most is) calm h = inr is

stop_too_much : (s : NamedSource) (status fault : Status)
    → StopsRun s status
    → (HasFailed s → ⊥)
    → HasMoreThan (most_of s.kind) s.seen.before
    → fault ≡ TooLong s.which
    → (status ≡ fault) ⊎ (status ≡ NoMemory out_of_memory)
stop_too_much s status fault (Unreadable risen most is) calm much e = absurd (calm risen)
stop_too_much s status fault (Long more is) calm much e = inl (is ∙ sym e)
stop_too_much s status fault (Faulty bytes read faulty) calm much e =
    absurd (not_too_much (most_of s.kind) s.seen.before s.seen.now bytes read much)
stop_too_much s status fault (Wanting most is) calm much e = inr is

pub stop_bad : (s : NamedSource) (status fault : Status)
    → StopsRun s status
    → HoldsBad s fault
    → (status ≡ fault) ⊎ (status ≡ NoMemory out_of_memory)
stop_bad s status fault stop (FaultHeld calm held) = stop_fault s status fault stop calm held
stop_bad s status fault stop (TooMuchHeld calm much is) = stop_too_much s status fault stop calm much is

-- what was read and is good isn't to be refused
pub good_not_bad : (s : NamedSource) (fault : Status) → WasGood s → HoldsBad s fault → ⊥
good_not_bad s fault w (FaultHeld calm h) =
    let P : List ℕ → Type 0 = λ bytes. IsFaultyAs s.kind bytes fault in
    never_faulty s.kind w.bytes fault w.good
    (subst P (given_all (most_of s.kind) s.seen.before s.seen.now h.bytes w.bytes h.told w.read) h.faulty)
good_not_bad s fault w (TooMuchHeld calm much is) = not_too_much (most_of s.kind) s.seen.before s.seen.now w.bytes w.read much

-- ---- one source

-- a command that has one source has no other, whatever is seen of it
one_is : (command : Command) (first second : Seen) → HasOneSource command
    → one_source command first ∷ [] ≡ sources (sources_of command) first second
one_is ScriptCommand first second one = refl
one_is Check first second one = refl
one_is Boot first second one = refl
one_is Serve first second one = absurd (cc)

-- so what holds of the one holds of all
pub of_sources : (P : List NamedSource → Type 0) (command : Command) (first second : Seen) → HasOneSource command
    → P (one_source command first ∷ [])
    → P (sources (sources_of command) first second)
of_sources P command first second one = subst P (one_is command first second one)

pub others_untouched : (command : Command) (First Second : Type 0) → HasOneSource command → Second
    → OthersAreUntouched (sources_of command) First Second
others_untouched ScriptCommand First Second one second = second
others_untouched Check First Second one second = second
others_untouched Boot First Second one second = second
others_untouched Serve First Second one second = absurd (cc)

-- all that holds good stops out of memory alone
pub stopped_good : (s : NamedSource) (status : Status) → StopsRun s status → AllHoldGood (s ∷ []) → status ≡ NoMemory out_of_memory
stopped_good s status stop all = stop_good s status stop all.0

-- the first that is to be refused is refused for that
pub stopped_bad : (s : NamedSource) (status fault : Status)
    → StopsRun s status
    → FirstBad (s ∷ []) fault
    → (status ≡ fault) ⊎ (status ≡ NoMemory out_of_memory)
stopped_bad s status fault stop (inl bad) = stop_bad s status fault stop bad
stopped_bad s status fault stop (inr later) = absurd later.1

-- nothing was made of a source that is to be refused
pub made_not_bad : (command : Command) (seen : Seen) (made : Made) (fault : Status)
    → IsMade command seen made
    → FirstBad (one_source command seen ∷ []) fault
    → ⊥
made_not_bad command seen made fault m (inl bad) =
    good_not_bad (one_source command seen) fault
    (record { bytes = m.bytes; read = m.read; good = made_good command m.bytes made m.of_bytes }) bad
made_not_bad command seen made fault m (inr later) = later.1

-- ---- which command it is

-- words are of one command
pub same_command : (words told : List (String Global)) (one other : Command)
    → Some one ≡ command_of told
    → told ≡ words
    → command_of words ≡ Some other
    → one ≡ other
same_command words told one other is same also = same_Some one other (is ∙ ap command_of same ∙ also)

-- so what holds of the one holds of the other
pub of_command : (P : Command → Type 0) (words told : List (String Global)) (one other : Command)
    → Some one ≡ command_of told
    → told ≡ words
    → command_of words ≡ Some other
    → P one
    → P other
of_command P words told one other is same also = subst P (same_command words told one other is same also)

-- and what holds of the command that was served, over its one source, holds of the command of the words, over its sources
pub served_all : (P : Command → List NamedSource → Type 0) (words told : List (String Global)) (one other : Command) (first second : Seen)
    → Some one ≡ command_of told
    → told ≡ words
    → command_of words ≡ Some other
    → HasOneSource one
    → P one (one_source one first ∷ [])
    → P other (sources (sources_of other) first second)
served_all P words told one other first second is same also alone h =
    let Q : Command → Type 0 = λ command. P command (sources (sources_of command) first second) in
    subst Q (same_command words told one other is same also) (of_sources (P one) one first second alone h)

-- a command that has a second source is `serve`
is_serve : (command : Command) (kind : SourceKind) → Some kind ≡ slice_get (sources_of command) 1 → command ≡ Serve
is_serve ScriptCommand kind there = absurd (cc)
is_serve Check kind there = absurd (cc)
is_serve Boot kind there = absurd (cc)
is_serve Serve kind there = refl

-- and what holds of `serve` over its two sources holds of the command of the words over its own
pub served_both : (P : Command → List NamedSource → Type 0) (words told : List (String Global)) (one other : Command) (kind : SourceKind)
    (first second : Seen)
    → Some one ≡ command_of told
    → told ≡ words
    → command_of words ≡ Some other
    → Some kind ≡ slice_get (sources_of one) 1
    → P Serve (both_sources first second)
    → P other (sources (sources_of other) first second)
served_both P words told one other kind first second is same also there h =
    let Q : Command → Type 0 = λ command. P command (sources (sources_of command) first second) in
    subst Q (sym (is_serve one kind there) ∙ same_command words told one other is same also) h

-- it drives a world
pub serve_drives : (words told : List (String Global)) (one other : Command) (kind : SourceKind)
    → Some one ≡ command_of told
    → told ≡ words
    → command_of words ≡ Some other
    → Some kind ≡ slice_get (sources_of one) 1
    → drives other ≡ false
    → ⊥
serve_drives words told one other kind is same also there none =
    let driven : drives other ≡ true = ap drives (sym (same_command words told one other is same also) ∙ is_serve one kind there) in
    let clash : true ≡ false = sym driven ∙ none in
    absurd (cc)

-- and no source of it is one that isn't named
pub none_unnamed : (words told : List (String Global)) (command : Command) (kind : SourceKind) (First Second : Type 0)
    → Some command ≡ command_of told
    → told ≡ words
    → Some kind ≡ slice_get (sources_of command) 1
    → OthersAreUntouched (sources_named (command_of words)) First Second
none_unnamed words told command kind First Second is same there =
    let P : Option Command → Type 0 = λ named. OthersAreUntouched (sources_named named) First Second in
    subst P (ap Some (sym (is_serve command kind there)) ∙ is ∙ ap command_of same) tt

-- what the words don't name is untouched
pub untouched_by_command : (words told : List (String Global)) (command : Command) (First Second : Type 0)
    → Some command ≡ command_of told
    → told ≡ words
    → HasOneSource command
    → Second
    → OthersAreUntouched (sources_named (command_of words)) First Second
untouched_by_command words told command First Second is same one second =
    let P : Option Command → Type 0 = λ named. OthersAreUntouched (sources_named named) First Second in
    subst P (is ∙ ap command_of same) (others_untouched command First Second one second)

pub untouched_by_none : (words told : List (String Global)) (First Second : Type 0)
    → None ≡ command_of told
    → told ≡ words
    → First
    → Second
    → OthersAreUntouched (sources_named (command_of words)) First Second
untouched_by_none words told First Second is same first second =
    let P : Option Command → Type 0 = λ named. OthersAreUntouched (sources_named named) First Second in
    subst P (is ∙ ap command_of same) (first, second)

-- ---- what was made

-- what was made is the report of what its source gave
pub made_reports : (command : Command) (seen : Seen) (made : Made) (IsDoneWith : List ℕ → Type 0)
    → IsMade command seen made
    → IsDoneWith made.text
    → Reports command (one_source command seen ∷ []) IsDoneWith
made_reports command seen made IsDoneWith m done = record {
  contents = m.bytes ∷ [];
  read = (m.read, tt);
  text = made.text;
  is = made_report command m.bytes made m.of_bytes;
  done = done;
}

-- its text is the report of its world
made_text : (bytes : List ℕ) (made : Made) (of : IsMadeOfScript bytes made)
    → made.text ≡ run_report of.by_script.world.entries (lane_values of.by_script.world.lanes)
unfolding report_for
made_text bytes made of =
    of.by_script.driven.reported
    ∙ ap (λ (es : List Entry). run_report es (lanes_of (core_of of.script) of.script)) (sym of.by_script.driven.entries)
    ∙ ap (λ (ls : List (List ℕ)). run_report of.by_script.world.entries ls) (sym of.by_script.driven.lanes)

-- what is shown on the two statuses that write
pub shown_by : (before now : Option (List ℕ)) (status : Status) (text : List ℕ)
    → (status ≡ Done) ⊎ (status ≡ WriteFault)
    → (status ≡ Done → Appends before now text)
    → (status ≡ WriteFault → AppendsFront before now text)
    → Shows before now status text
shown_by before now status text (inl e) done front = Whole e (done e)
shown_by before now status text (inr e) done front = Front e (front e)

module _ (seen : Seen) (made : Made) (bytes : List ℕ) (read : WasRead (one_source ScriptCommand seen) bytes)
    (of : IsMadeOfScript bytes made) where
  script_drives : Drives ScriptCommand (one_source ScriptCommand seen ∷ []) of.script (core_of of.script)
  script_drives = record {
    contents = bytes ∷ [];
    read = (read, tt);
    script_is = record { bytes = bytes; given = refl; says = of.says };
    core_is = refl;
  }

  -- the world that was made of a script stands for its events
  script_stands : OfWorld (StandsForScript ScriptCommand (one_source ScriptCommand seen ∷ [])) made.world
  script_stands =
      let Q : Option (WorldState CoreState) → Type 0 = OfWorld (StandsForScript ScriptCommand (one_source ScriptCommand seen ∷ [])) in
      let driven = of.by_script.driven in
      let stood : StandsForScript ScriptCommand (one_source ScriptCommand seen ∷ []) of.by_script.world = record {
        script = of.script;
        core = core_of of.script;
        drives = script_drives;
        stands = driven.stands;
        words = driven.words;
        trace = driven.trace;
        pieces_are = λ lane. ap (pieces_in lane) driven.trace ∙ pieces_told lane (past_of (core_of of.script) of.script);
        entries = driven.entries;
        lanes = driven.lanes;
      } in
      subst Q (sym of.by_script.there) stood

  -- and it has the headline, where its report was written or a front of it
  script_headline : (before now : Option (List ℕ)) (status : Status)
      → (status ≡ Done) ⊎ (status ≡ WriteFault)
      → (status ≡ Done → Appends before now made.text)
      → (status ≡ WriteFault → AppendsFront before now made.text)
      → OfWorld (IsHeadlineOf ScriptCommand (one_source ScriptCommand seen ∷ []) before now status) made.world
  script_headline before now status ends done front =
      let Q : Option (WorldState CoreState) → Type 0 =
      OfWorld (IsHeadlineOf ScriptCommand (one_source ScriptCommand seen ∷ []) before now status) in
      let says : IsHeadlineOf ScriptCommand (one_source ScriptCommand seen ∷ []) before now status of.by_script.world = record {
        script = of.script;
        core = core_of of.script;
        drives = script_drives;
        says =
            headline_of core_step (core_of of.script) of.script.events of.by_script.world
            (λ core request. (core_step-within core request).reply) of.by_script.driven.stands;
        text = made.text;
        reported = made_text bytes made of;
        shown = shown_by before now status made.text ends done front;
      } in
      subst Q (sym of.by_script.there) says

-- a command that drives a world hands out one that stands for its script's events, with the headline
pub made_stands : (command : Command) (seen : Seen) (made : Made)
    → IsMade command seen made
    → drives command ≡ true
    → OfWorld (StandsForScript command (one_source command seen ∷ [])) made.world
made_stands ScriptCommand seen made m is = script_stands seen made m.bytes m.read m.of_bytes
made_stands Check seen made m is = absurd (let u : false ≡ true = is in cc)
made_stands Boot seen made m is = absurd (let u : false ≡ true = is in cc)
made_stands Serve seen made m is = absurd m.of_bytes

pub made_headline : (command : Command) (seen : Seen) (before now : Option (List ℕ)) (status : Status) (made : Made)
    → IsMade command seen made
    → drives command ≡ true
    → (status ≡ Done) ⊎ (status ≡ WriteFault)
    → (status ≡ Done → Appends before now made.text)
    → (status ≡ WriteFault → AppendsFront before now made.text)
    → OfWorld (IsHeadlineOf command (one_source command seen ∷ []) before now status) made.world
made_headline ScriptCommand seen before now status made m is ends done front =
    script_headline seen made m.bytes m.read m.of_bytes before now status ends done front
made_headline Check seen before now status made m is ends done front = absurd (let u : false ≡ true = is in cc)
made_headline Boot seen before now status made m is ends done front = absurd (let u : false ≡ true = is in cc)
made_headline Serve seen before now status made m is ends done front = absurd m.of_bytes

-- and one that drives none hands out none
pub made_worldless : (command : Command) (seen : Seen) (made : Made)
    → IsMade command seen made
    → drives command ≡ false
    → made.world ≡ None
made_worldless ScriptCommand seen made m is = absurd (let u : true ≡ false = is in cc)
made_worldless Check seen made m is = m.of_bytes.none
made_worldless Boot seen made m is = m.of_bytes.none
made_worldless Serve seen made m is = absurd m.of_bytes
