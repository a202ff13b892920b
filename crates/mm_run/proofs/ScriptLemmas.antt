-- From a script to the world that it drives.
use Rattle.std.proofs.Common.{◌≡◌, ◌<◌, ℕ, zero, suc, ◌+◌, List, [], ◌∷◌, ◌++◌, All, length, map, take, Some, slice_index, refl, sym, ap, ◌∙◌, subst, arith}
use Rattle.std.proofs.lemmas.Option.{none-some, same_Some}
use Rattle.std.specs.List.{range_with_len, slice_get}
use Rattle.std.proofs.lemmas.List.Elements.{All-same}
use Rattle.mm_base.specs.Replay.{replayed}
use Rattle.mm_base.specs.declared.entry.Entry.{Entry}
use Rattle.comm_core.specs.Capture.{Mark, trace_of, course, requests, value_at}
use Rattle.comm_core.specs.WorldState.{LaneState, WorldState, lane_values}
use Rattle.comm_core.specs.WorldPast.{StandsForEvents}
use Rattle.comm_core.specs.WorldReadiness.{IsOfWorld}
use Rattle.comm_core.specs.declared.event.Event.{Event}
use Rattle.comm_core.specs.declared.script.Script.{Script}
use Rattle.mm_core.specs.CoreState.{CoreState}
use Rattle.mm_core.specs.EntryStep.{core_step}
use Rattle.mm_text.specs.Report.{HaveFrontWords}
use Rattle.mm_run.specs.RunInside.{IsDriven}
use Rattle.mm_run.specs.ScriptRun.{core_of, past_of, entries_of, values_from, lanes_of, run_report, report_for}

-- what is of a script's world is of the world that has as many lanes and words
pub all_of_world : (script : Script) (lanes words : ℕ) (told : List Event) → lanes ≡ script.lanes → words ≡ script.words → told ≡ script.events → All (IsOfWorld script.lanes script.words) script.events → All (IsOfWorld lanes words) told
all_of_world script lanes words told le we te h =
    let P : ℕ → Type 0 = λ n. All (IsOfWorld n words) told in
    let Q : ℕ → Type 0 = λ n. All (IsOfWorld script.lanes n) told in
    subst P (sym le) (subst Q (sym we) (All-same (IsOfWorld script.lanes script.words) told script.events te h))

-- the world stands for the script's events
pub stands_for_script : (script : Script) (told : List Event) (core : CoreState) (before now : WorldState CoreState) → core ≡ core_of script → told ≡ script.events → StandsForEvents core_step core [] before → ((machine : CoreState) (so_far : List Event) → StandsForEvents core_step machine so_far before → StandsForEvents core_step machine (so_far ++ told) now) → StandsForEvents core_step (core_of script) script.events now
stands_for_script script told core before now ce te s on =
    let P : CoreState → Type 0 = λ m. StandsForEvents core_step m [] before in
    let Q : List Event → Type 0 = λ es. StandsForEvents core_step (core_of script) es now in
    subst Q te (on (core_of script) [] (subst P ce s))

-- a lane's words are the values that the past tells
values_same : (lane word n : ℕ) (past : List Mark) (values : List ℕ) → length values ≡ n → ((i : ℕ) → i < length values → slice_index values i ≡ value_at lane (word + i) past) → values ≡ values_from lane word n past
unfolding values_from
values_same lane word zero past [] e h = refl
values_same lane word zero past (x ∷ values) e h = absurd (omega arith)
values_same lane word (suc n) past [] e h = absurd (omega arith)
values_same lane word (suc n) past (x ∷ values) e h =
    ap (λ v. v ∷ values) (h 0 (omega arith) ∙ ap (λ k. value_at lane k past) (omega arith))
    ∙ ap (λ vs. value_at lane word past ∷ vs)
    (values_same lane (word + 1) n past values (omega arith) (λ i l. h (suc i) (omega arith) ∙ ap (λ k. value_at lane k past) (omega arith)))

-- the words of so many lanes from this one on are those that the past tells
lanes_same : (from n size : ℕ) (past : List Mark) (lanes : List LaneState) → length lanes ≡ n → ((i : ℕ) (seen : LaneState) → slice_get lanes i ≡ Some seen → (length seen.values ≡ size) × ((word : ℕ) → word < length seen.values → slice_index seen.values word ≡ value_at (from + i) word past)) → map (λ seen. seen.values) lanes ≡ map (λ lane. values_from lane 0 size past) (range_with_len from n)
lanes_same from zero size past [] e h = refl
lanes_same from zero size past (x ∷ lanes) e h = absurd (omega arith)
lanes_same from (suc n) size past [] e h = absurd (omega arith)
lanes_same from (suc n) size past (x ∷ lanes) e h =
    let here = h 0 x refl in
    let first : x.values ≡ values_from from 0 size past =
    values_same from 0 size past x.values here.0 (λ i l. here.1 i l ∙ ap (λ k. value_at k i past) (omega arith) ∙ ap (λ k. value_at from k past) (omega arith)) in
    let rest = lanes_same (from + 1) n size past lanes (omega arith)
    (λ i seen there. let one = h (suc i) seen there in (one.0, λ word l. one.1 word l ∙ ap (λ k. value_at k word past) (omega arith))) in
    ap (λ v. v ∷ map (λ (seen : LaneState). seen.values) lanes) first ∙ ap (λ vs. values_from from 0 size past ∷ vs) rest

-- a lane of a world has as many words as the list of its lanes' words says
size_of : (size : ℕ) (lanes : List LaneState) → All (λ lane. length lane ≡ size) (map (λ seen. seen.values) lanes) → (i : ℕ) (seen : LaneState) → slice_get lanes i ≡ Some seen → length seen.values ≡ size
size_of size [] all i seen there = absurd (none-some seen there)
size_of size (x ∷ lanes) all zero seen there = ap (λ (s : LaneState). length s.values) (sym (same_Some x seen there)) ∙ all 0 [] (omega arith)
size_of size (x ∷ lanes) all (suc i) seen there = size_of size lanes (λ k d l. all (suc k) d (omega arith)) i seen there

-- the words of the lanes so far, and of one lane more
pub values_more : (lanes : List LaneState) (i : ℕ) (copied : List ℕ) → i < length lanes → ((seen : LaneState) → slice_get lanes i ≡ Some seen → copied ≡ seen.values) → map (λ seen. seen.values) (take i lanes) ++ copied ∷ [] ≡ map (λ seen. seen.values) (take (i + 1) lanes)
values_more [] i copied h is = absurd (omega arith)
values_more (x ∷ lanes) zero copied h is = ap (λ v. v ∷ []) (is x refl)
values_more (x ∷ lanes) (suc i) copied h is =
    let e : suc (i + 1) ≡ suc i + 1 = omega arith in
    ap (λ vs. x.values ∷ vs) (values_more lanes i copied (omega arith) (λ seen there. is seen there))
    ∙ ap (λ n. map (λ (seen : LaneState). seen.values) (take n (x ∷ lanes))) e

-- the lanes' words are long enough for a report
pub front_words : (words : ℕ) (lanes : List (List ℕ)) → All (λ lane. length lane ≡ words + 2) lanes → HaveFrontWords (Some lanes)
front_words words lanes all = λ k d l. omega (arith, all k d l)

-- what is driven is what the definitions say
pub driven_is : (core : CoreState) (script : Script) (w : WorldState CoreState) (copied : List (List ℕ)) (text : List ℕ) → w.words ≡ script.words → length w.lanes ≡ script.lanes → copied ≡ lane_values w.lanes → All (λ lane. length lane ≡ w.words + 2) copied → StandsForEvents core_step core script.events w → text ≡ run_report w.entries copied → IsDriven core script w text
unfolding entries_of lanes_of past_of report_for
driven_is core script w copied text ws ls cs all s t =
    let now : List Mark = course core_step core w.words script.events in
    let told : List Mark = course core_step core script.words script.events in
    let past : now ≡ told = ap (λ n. course core_step core n script.events) ws in
    let entries : w.entries ≡ replayed core_step core (requests told) =
    s.entries ∙ ap (λ p. replayed core_step core (requests p)) past in
    let P : List (List ℕ) → Type 0 = λ ls. All (λ lane. length lane ≡ w.words + 2) ls in
    let sizes : All (λ lane. length lane ≡ w.words + 2) (lane_values w.lanes) = subst P cs all in
    let lanes : lane_values w.lanes ≡ map (λ lane. values_from lane 0 (script.words + 2) told) (range_with_len 0 script.lanes) =
    lanes_same 0 script.lanes (script.words + 2) told w.lanes ls
    (λ i seen there. (
      size_of (w.words + 2) w.lanes sizes i seen there ∙ ap (λ n. n + 2) ws,
      λ word l. (s.each i seen there).values word l ∙ ap (value_at i word) past ∙ ap (λ k. value_at k word told) (omega arith),
    )) in
    record {
      stands = s;
      words = ws;
      trace = s.trace ∙ ap trace_of past;
      entries = entries;
      lanes = lanes;
      reported =
          t ∙ ap (λ (es : List Entry). run_report es copied) entries
          ∙ ap (λ (ls : List (List ℕ)). run_report (replayed core_step core (requests told)) ls) (cs ∙ lanes);
    }
