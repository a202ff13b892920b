use Rattle.std.proofs.Common.{◌≡◌, ℕ, ◌+◌, List, Option, Some, None, ◌==◌, Bor, length, map, take, sym, ap, subst, ◌∙◌, rules, tests}
use Rattle.std.specs.Iterator.{Yields}
use Rattle.std.specs.List.{slice_get, slice_split}
use Rattle.std.proofs.lemmas.Iterator.{YieldsList}
use Rattle.std.proofs.lemmas.Iterator.Consumers.{YieldsList-at, YieldsList-so_far, YieldsList-turn, YieldsList-end}
use Rattle.std.proofs.lemmas.Iterator.Splits.{YieldsList-from_slice_split}
use Rattle.std.proofs.lemmas.List.{map_push, length_push}
use Rattle.std.proofs.lemmas.Option.{slice_get-get_or}
use Rattle.mm_base.specs.End.{EndsBy}
use Rattle.mm_base.specs.declared.end.End.{End}
use Rattle.mm_text.specs.Refusal.{IsRefusedLine}
use Rattle.mm_text.specs.ScriptReaderInside.{HasRead, ended_at}
use Rattle.mm_text.specs.ScriptText.{lines_of}
use Rattle.mm_text.specs.declared.text_end.TextFault.{TextFault}
use Rattle.mm_text.proofs.ReaderLemmas.{read-more, stopped-at}
use Rattle.mm_text.proofs.script_reader.read_lines.Goals as goal

-- all items of a list were yielded
all_yielded : {S A B : Type 0} {steps : S → Option A → S → Type 0} {s : S} (v : A → B) (all : List B) (xs : List A) (t : S) → Yields steps s xs t
    → (r : Option A) (u : S) → r ≡ None → steps t r u → YieldsList steps v s all → map v xs ≡ all
all_yielded v all xs t y r u is step e = (YieldsList-end e xs t y r u is step).0

-- where an item stands in a list of which these were yielded before it
record IsNextOf {A B : Type 0} (v : A → B) (all : List B) (xs : List A) (x : A) : Type 0 where
  front : map v xs ≡ take (length xs) all
  there : slice_get all (length xs) ≡ Some (v x)

next_yielded : {S A B : Type 0} {steps : S → Option A → S → Type 0} {s : S} (v : A → B) (all : List B) (xs : List A) (t : S) → Yields steps s xs t
    → (r : Option A) (u : S) (x : A) → r ≡ Some x → steps t r u → YieldsList steps v s all → IsNextOf v all xs x
next_yielded v all xs t y r u x is step e =
    let turn = YieldsList-turn e xs t y r u x is step in
    record {
      front = YieldsList-so_far e xs t y;
      there = slice_get-get_or all (length xs) (v x) turn.0 ∙ ap Some (sym turn.1);
    }

pub loop-line-preserved : goal.loop-line-preserved
loop-line-preserved c =
    let P : List (List ℕ) → Type 0 = λ lines. HasRead c.args.handlers lines c.take_line.new.builder in
    record {
      next = search rules;
      finite = search rules;
      number = search (rules, length_push);
      small = c.in_default.ensures.small;
      read = subst P (sym (map_push (λ (line : Bor (List ℕ)). line.now) c.loop-line.yielded c.in-Some.line))
          (read-more c.args.handlers (map (λ (line : Bor (List ℕ)). line.now) c.loop-line.yielded) c.in-Some.line.now c.loop-line.builder c.take_line.new.builder
          c.loop-line.invariant.read c.in_default.ensures.on);
    }

pub returns-in-Err-clause-stopped : goal.returns-in-Err-clause-stopped
returns-in-Err-clause-stopped c =
    let n : ℕ = length c.loop-line.yielded in
    let at : IsNextOf (λ (line : Bor (List ℕ)). line.now) (slice_split (λ byte. byte == 10) c.args.bytes.now) c.loop-line.yielded c.in-Some.line =
    next_yielded (λ (line : Bor (List ℕ)). line.now) (slice_split (λ byte. byte == 10) c.args.bytes.now) c.loop-line.yielded _ c.loop-line.yielded_by _ _ c.in-Some.line
    c.in-Some.is c.next.ensures.steps
    (YieldsList-at c.into_iter-line-iterator.ensures.into_iter_gives
    (YieldsList-from_slice_split _ (λ byte. byte == 10) c.args.bytes.now c.split-line-items.ensures.rest c.split-line-items.ensures.done c.split-line-items.ensures.closure
    (λ x r q k. search (rules, tests)))) in
    let P : End TextFault → Type 0 = EndsBy (IsRefusedLine c.args.handlers (lines_of c.args.bytes.now)) in
    subst P (ap (λ (k : ℕ). ended_at (k + 1) c.in-Err.fault) (sym c.loop-line.invariant.number) ∙ sym c.at.ensures)
    (stopped-at c.args.handlers (lines_of c.args.bytes.now) (map (λ (line : Bor (List ℕ)). line.now) c.loop-line.yielded) n c.in-Some.line.now c.loop-line.builder c.in-Err.fault
    c.loop-line.invariant.read at.front at.there c.in-Err.ensures.refused)

pub returns-clause-told : goal.returns-clause-told
returns-clause-told c =
    let P : List (List ℕ) → Type 0 = λ lines. HasRead c.args.handlers lines c.loop-line.builder in
    subst P
    (all_yielded (λ (line : Bor (List ℕ)). line.now) (slice_split (λ byte. byte == 10) c.args.bytes.now) c.loop-line.yielded _ c.loop-line.yielded_by _ _ c.in-None.is c.next.ensures.steps
    (YieldsList-at c.into_iter-line-iterator.ensures.into_iter_gives
    (YieldsList-from_slice_split _ (λ byte. byte == 10) c.args.bytes.now c.split-line-items.ensures.rest c.split-line-items.ensures.done c.split-line-items.ensures.closure
    (λ x r q k. search (rules, tests)))))
    c.loop-line.invariant.read
