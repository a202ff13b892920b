use Rattle.std.proofs.Common.{ℕ, ◌≡◌, ◌≤◌, ◌+◌, ◌∙◌, length, OnOk, refl, sym, ap, subst, arith}
use Rattle.comm_core.specs.Capture.{longest}
use Rattle.comm_core.specs.WorldState.{WorldState}
use Rattle.comm_core.specs.WorldReadiness.{entries_asked, rings_in}
use Rattle.comm_core.specs.TransitionsInside.{after_event, acts_times}
use Rattle.comm_core.specs.declared.event.Event.{Event}
use Rattle.comm_core.proofs.StandsLemmas.{AreSized, stands_for_more, stands_on_ok, either_way, after_event_words, after_event_lanes, after_event_asked}
use Rattle.comm_core.proofs.world.World.event.Goals as goal

pub returns-in-Ring-clause-stands : goal.returns-in-Ring-clause-stands
returns-in-Ring-clause-stands g c =
    let step = g.M.Machine.stepped in
    let calls = g.M.Machine.most_calls in
    let w = c.args.self.now in
    let sized : AreSized w = subst AreSized c.self.view_is (λ lane seen h. (c.self.invariant.each lane seen h).size) in
    let P : Event → Type 0 = λ e. OnOk c.ring.result (c.ring.new.self ≡ after_event step calls w e) in
    let ok = subst P (sym c.in-Ring.is) c.ring.ensures.ok in
    stands_on_ok c.ring.result step calls c.args.event.now w c.ring.new.self c.requires.there sized ok

pub returns-in-Ring-clause-words : goal.returns-in-Ring-clause-words
returns-in-Ring-clause-words g c =
    let step = g.M.Machine.stepped in
    let calls = g.M.Machine.most_calls in
    let w = c.args.self.now in
    let P : Event → Type 0 = λ e. OnOk c.ring.result (c.ring.new.self ≡ after_event step calls w e) in
    let ok = subst P (sym c.in-Ring.is) c.ring.ensures.ok in
    let Q : WorldState _ → Type 0 = λ v. v.words ≡ w.words in
    either_way c.ring.result Q w (after_event step calls w c.args.event.now) c.ring.new.self ok c.ring.ensures.err
    (after_event_words step calls w c.args.event.now c.requires.there) refl

pub returns-in-Ring-clause-lanes : goal.returns-in-Ring-clause-lanes
returns-in-Ring-clause-lanes g c =
    let step = g.M.Machine.stepped in
    let calls = g.M.Machine.most_calls in
    let w = c.args.self.now in
    let P : Event → Type 0 = λ e. OnOk c.ring.result (c.ring.new.self ≡ after_event step calls w e) in
    let ok = subst P (sym c.in-Ring.is) c.ring.ensures.ok in
    let Q : WorldState _ → Type 0 = λ v. length v.lanes ≡ length w.lanes in
    either_way c.ring.result Q w (after_event step calls w c.args.event.now) c.ring.new.self ok c.ring.ensures.err
    (after_event_lanes step calls w c.args.event.now c.requires.there) refl

pub returns-in-Ring-clause-entries : goal.returns-in-Ring-clause-entries
returns-in-Ring-clause-entries g c =
    let step = g.M.Machine.stepped in
    let calls = g.M.Machine.most_calls in
    let w = c.args.self.now in
    let P : Event → Type 0 = λ e. OnOk c.ring.result (c.ring.new.self ≡ after_event step calls w e) in
    let ok = subst P (sym c.in-Ring.is) c.ring.ensures.ok in
    let Q : WorldState _ → Type 0 = λ v. entries_asked v ≤ entries_asked w + rings_in c.args.event.now in
    either_way c.ring.result Q w (after_event step calls w c.args.event.now) c.ring.new.self ok c.ring.ensures.err
    (after_event_asked step calls w c.args.event.now c.requires.there) (omega arith)

pub returns-in-Poke-clause-stands : goal.returns-in-Poke-clause-stands
returns-in-Poke-clause-stands g c =
    let step = g.M.Machine.stepped in
    let calls = g.M.Machine.most_calls in
    let w = c.args.self.now in
    let sized : AreSized w = subst AreSized c.self.view_is (λ lane seen h. (c.self.invariant.each lane seen h).size) in
    let P : Event → Type 0 = λ e. OnOk c.poke.result (c.poke.new.self ≡ after_event step calls w e) in
    let ok = subst P (sym c.in-Poke.is) c.poke.ensures.ok in
    stands_on_ok c.poke.result step calls c.args.event.now w c.poke.new.self c.requires.there sized ok

pub returns-in-Poke-clause-words : goal.returns-in-Poke-clause-words
returns-in-Poke-clause-words g c =
    let step = g.M.Machine.stepped in
    let calls = g.M.Machine.most_calls in
    let w = c.args.self.now in
    let P : Event → Type 0 = λ e. OnOk c.poke.result (c.poke.new.self ≡ after_event step calls w e) in
    let ok = subst P (sym c.in-Poke.is) c.poke.ensures.ok in
    let Q : WorldState _ → Type 0 = λ v. v.words ≡ w.words in
    either_way c.poke.result Q w (after_event step calls w c.args.event.now) c.poke.new.self ok c.poke.ensures.err
    (after_event_words step calls w c.args.event.now c.requires.there) refl

pub returns-in-Poke-clause-lanes : goal.returns-in-Poke-clause-lanes
returns-in-Poke-clause-lanes g c =
    let step = g.M.Machine.stepped in
    let calls = g.M.Machine.most_calls in
    let w = c.args.self.now in
    let P : Event → Type 0 = λ e. OnOk c.poke.result (c.poke.new.self ≡ after_event step calls w e) in
    let ok = subst P (sym c.in-Poke.is) c.poke.ensures.ok in
    let Q : WorldState _ → Type 0 = λ v. length v.lanes ≡ length w.lanes in
    either_way c.poke.result Q w (after_event step calls w c.args.event.now) c.poke.new.self ok c.poke.ensures.err
    (after_event_lanes step calls w c.args.event.now c.requires.there) refl

pub returns-in-Poke-clause-entries : goal.returns-in-Poke-clause-entries
returns-in-Poke-clause-entries g c =
    let step = g.M.Machine.stepped in
    let calls = g.M.Machine.most_calls in
    let w = c.args.self.now in
    let P : Event → Type 0 = λ e. OnOk c.poke.result (c.poke.new.self ≡ after_event step calls w e) in
    let ok = subst P (sym c.in-Poke.is) c.poke.ensures.ok in
    let Q : WorldState _ → Type 0 = λ v. entries_asked v ≤ entries_asked w + rings_in c.args.event.now in
    either_way c.poke.result Q w (after_event step calls w c.args.event.now) c.poke.new.self ok c.poke.ensures.err
    (after_event_asked step calls w c.args.event.now c.requires.there) (omega arith)

pub returns-in-Steps-clause-stands : goal.returns-in-Steps-clause-stands
returns-in-Steps-clause-stands g c machine events s =
    let step = g.M.Machine.stepped in
    let calls = g.M.Machine.most_calls in
    let w = c.args.self.now in
    let sized : AreSized w = subst AreSized c.self.view_is (λ lane seen h. (c.self.invariant.each lane seen h).size) in
    let is = c.steps.ensures ∙ ap (after_event step calls w) (sym c.in-Steps.is) in
    stands_for_more step calls machine events c.args.event.now w c.steps.new.self c.requires.there sized is s

pub returns-in-Steps-clause-words : goal.returns-in-Steps-clause-words
returns-in-Steps-clause-words g c =
    let step = g.M.Machine.stepped in
    let calls = g.M.Machine.most_calls in
    let w = c.args.self.now in
    let is = c.steps.ensures ∙ ap (after_event step calls w) (sym c.in-Steps.is) in
    ap (λ (v : WorldState _). v.words) is ∙ after_event_words step calls w c.args.event.now c.requires.there

pub returns-in-Steps-clause-lanes : goal.returns-in-Steps-clause-lanes
returns-in-Steps-clause-lanes g c =
    let step = g.M.Machine.stepped in
    let calls = g.M.Machine.most_calls in
    let w = c.args.self.now in
    let is = c.steps.ensures ∙ ap (after_event step calls w) (sym c.in-Steps.is) in
    ap (λ (v : WorldState _). length v.lanes) is ∙ after_event_lanes step calls w c.args.event.now c.requires.there

pub returns-in-Steps-clause-entries : goal.returns-in-Steps-clause-entries
returns-in-Steps-clause-entries g c =
    let step = g.M.Machine.stepped in
    let calls = g.M.Machine.most_calls in
    let w = c.args.self.now in
    let is = c.steps.ensures ∙ ap (after_event step calls w) (sym c.in-Steps.is) in
    omega (arith, ap (λ (v : WorldState _). entries_asked v) is, after_event_asked step calls w c.args.event.now c.requires.there)

pub returns-in-Run-clause-stands : goal.returns-in-Run-clause-stands
returns-in-Run-clause-stands g c machine events s =
    let step = g.M.Machine.stepped in
    let calls = g.M.Machine.most_calls in
    let w = c.args.self.now in
    let sized : AreSized w = subst AreSized c.self.view_is (λ lane seen h. (c.self.invariant.each lane seen h).size) in
    let run = c.most_actions-run.ensures ∙ ap (λ (v : WorldState _). longest v.words) c.self.view_is in
    let is =
    c.steps-in-Run.ensures ∙ ap (λ (n : ℕ). acts_times step c.in-Run.lane n w) run ∙ ap (after_event step calls w) (sym c.in-Run.is) in
    stands_for_more step calls machine events c.args.event.now w c.steps-in-Run.new.self c.requires.there sized is s

pub returns-in-Run-clause-words : goal.returns-in-Run-clause-words
returns-in-Run-clause-words g c =
    let step = g.M.Machine.stepped in
    let calls = g.M.Machine.most_calls in
    let w = c.args.self.now in
    let run = c.most_actions-run.ensures ∙ ap (λ (v : WorldState _). longest v.words) c.self.view_is in
    let is =
    c.steps-in-Run.ensures ∙ ap (λ (n : ℕ). acts_times step c.in-Run.lane n w) run ∙ ap (after_event step calls w) (sym c.in-Run.is) in
    ap (λ (v : WorldState _). v.words) is ∙ after_event_words step calls w c.args.event.now c.requires.there

pub returns-in-Run-clause-lanes : goal.returns-in-Run-clause-lanes
returns-in-Run-clause-lanes g c =
    let step = g.M.Machine.stepped in
    let calls = g.M.Machine.most_calls in
    let w = c.args.self.now in
    let run = c.most_actions-run.ensures ∙ ap (λ (v : WorldState _). longest v.words) c.self.view_is in
    let is =
    c.steps-in-Run.ensures ∙ ap (λ (n : ℕ). acts_times step c.in-Run.lane n w) run ∙ ap (after_event step calls w) (sym c.in-Run.is) in
    ap (λ (v : WorldState _). length v.lanes) is ∙ after_event_lanes step calls w c.args.event.now c.requires.there

pub returns-in-Run-clause-entries : goal.returns-in-Run-clause-entries
returns-in-Run-clause-entries g c =
    let step = g.M.Machine.stepped in
    let calls = g.M.Machine.most_calls in
    let w = c.args.self.now in
    let run = c.most_actions-run.ensures ∙ ap (λ (v : WorldState _). longest v.words) c.self.view_is in
    let is =
    c.steps-in-Run.ensures ∙ ap (λ (n : ℕ). acts_times step c.in-Run.lane n w) run ∙ ap (after_event step calls w) (sym c.in-Run.is) in
    omega (arith, ap (λ (v : WorldState _). entries_asked v) is, after_event_asked step calls w c.args.event.now c.requires.there)
