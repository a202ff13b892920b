use Rattle.std.proofs.Common.{◌≡◌, ◌∙◌, length, ap, arith}
use Rattle.mm_base.specs.declared.entry.Entry.{Entry}
use Rattle.mm_core.specs.EntryStep.{entry_step}
use Rattle.mm_core.proofs.StepLemmas.{core_step-left, core_step-outcome}
use Rattle.mm_core.proofs.machine_core.CoreMachine.step.Goals as goal

pub outcome_of-outcome-requires : goal.outcome_of-outcome-requires
outcome_of-outcome-requires c =
    let rooms = c.rooms-rooms.ensures in
    let entry : c.entry.result.now ≡ c.args.prepared.now.entry = c.entry.ensures.value ∙ ap (λ p. p.entry) rooms.left in
    record {
      reply = ap (λ r. r.items) rooms.reply;
      chain = ap (λ r. r.items) rooms.chain;
      root = ap (λ r. r.items) rooms.root;
      reply_room = omega (arith, c.requires.reply, ap (λ r. r.room) rooms.reply, ap (λ e. length e.request.bytes) entry);
      chain_room = omega (arith, c.requires.calls, ap (λ r. r.room) rooms.chain);
      root_room = omega (arith, c.requires.calls, ap (λ r. r.room) rooms.root);
      blanks = omega (arith, c.requires.calls, rooms.blanks);
    }

pub returns : goal.returns
returns c =
    let left = c.rooms-rooms.ensures.left in
    let core = c.args.self.now in
    let entry : c.entry.result.now ≡ c.args.prepared.now.entry = c.entry.ensures.value ∙ ap (λ p. p.entry) left in
    record {
      request = ap (λ p. p.entry.request) c.finish.ensures ∙ ap (λ p. p.entry.request) left;
      outcome =
          ap (λ p. p.entry.outcome) c.finish.ensures ∙ c.outcome_of-outcome.ensures.outcome
          ∙ ap (λ (e : Entry). (entry_step core.site core.live e.request).0) entry
          ∙ core_step-outcome core c.args.prepared.now.entry.request;
      after =
          c.outcome_of-outcome.ensures.core
          ∙ ap (λ (e : Entry). record core { live = (entry_step core.site core.live e.request).1 }) entry
          ∙ core_step-left core c.args.prepared.now.entry.request;
      second = ap (λ p. p.second) c.finish.ensures ∙ ap (λ p. p.second) left;
    }
