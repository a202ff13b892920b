use Rattle.std.proofs.Common.{◌≡◌, ◌∙◌, [], ◌++◌, sym, ap, None, length, arith}
use Rattle.mm_core.specs.ChainInside.{managed}
use Rattle.mm_core.specs.CoreState.{CoreState}
use Rattle.mmi_registry.specs.Handlers.{chain_of}
use Rattle.mm_core.specs.HandlerChain.{invocations_of, live_after}
use Rattle.mm_core.specs.Message.{Message, no_message}
use Rattle.mm_core.proofs.BufferLemmas.{reply_alone}
use Rattle.mm_core.proofs.StepLemmas.{core_is, root_place, none_left, outcome_is, same_site}
use Rattle.mm_core.proofs.entry_step.outcome_of.Goals as goal

pub new-buffer-requires : goal.new-buffer-requires
new-buffer-requires c = c.requires.reply

pub answer-status-requires : goal.answer-status-requires
answer-status-requires c = record {
  shape = sym c.classify-shape.ensures;
  buffer = c.new-buffer.ensures ∙ ap (λ b. reply_alone [] b.room) (sym c.new-buffer.ensures);
  reply_room = omega (arith, c.requires.reply_room, ap (λ b. b.room) c.new-buffer.ensures);
  chain = c.requires.chain;
  chain_room = c.requires.chain_room;
  blanks = c.requires.blanks;
}

pub manage-requires : goal.manage-requires
manage-requires c =
    let none : c.answer-status.new.buffer.message ≡ no_message =
    ap (λ b. b.message) c.answer-status.ensures.reply ∙ ap (λ b. b.message) c.new-buffer.ensures in
    let core = c.args.core.now in
    let place = root_place core c.args.request.now c.classify-shape.result in
    let same : length (chain_of None c.answer-status.new.core.site.handlers) ≡ length (chain_of None core.site.handlers) =
    ap (λ (after : CoreState). length (chain_of None after.site.handlers)) c.answer-status.ensures.core
    ∙ ap (λ site. length (chain_of None site.handlers)) (same_site core c.args.request.now c.classify-shape.result) in
    record {
      given = sym none;
      room = omega (arith, same, place, c.requires.root_room, ap length c.requires.root);
      blanks = omega (arith, same, place, c.requires.blanks, c.answer-status.ensures.blanks);
    }

pub into_reply-requires : goal.into_reply-requires
into_reply-requires c =
    let none : c.answer-status.new.buffer.message ≡ no_message =
    ap (λ b. b.message) c.answer-status.ensures.reply ∙ ap (λ b. b.message) c.new-buffer.ensures in
    none_left c.answer-status.new.core c.args.request.now.saved c.answer-status.new.buffer _ none c.manage.ensures.message

pub returns : goal.returns
returns c =
    let none : c.answer-status.new.buffer.message ≡ no_message =
    ap (λ b. b.message) c.answer-status.ensures.reply ∙ ap (λ b. b.message) c.new-buffer.ensures in
    let core = c.args.core.now in
    let saved = c.args.request.now.saved in
    let between = c.answer-status.new.core in
    let runs : managed between None saved c.answer-status.new.buffer.message ≡ managed between None saved no_message =
    ap (λ (m : Message). managed between None saved m) none in
    record {
      outcome =
          outcome_is core c.args.request.now _ c.classify-shape.ensures c.answer-status.ensures.status
          (c.into_reply.ensures ∙ ap (λ b. b.front) c.manage.ensures.message ∙ ap (λ b. b.front) c.answer-status.ensures.reply)
          (c.into_list.ensures ∙ c.answer-status.ensures.chain)
          (c.into_list-2.ensures ∙ ap (λ r. r.items) c.manage.ensures.invocations
          ∙ ap (λ xs. xs ++ invocations_of (managed between None saved c.answer-status.new.buffer.message)) c.requires.root
          ∙ ap invocations_of runs
          ∙ ap (λ (after : CoreState). invocations_of (managed after None saved no_message)) c.answer-status.ensures.core);
      core =
          core_is core c.args.request.now between c.manage.new.core c.classify-shape.result c.classify-shape.ensures c.answer-status.ensures.core
          (c.manage.ensures.core ∙ ap (λ rs. record between { live = live_after between.live rs }) runs);
    }
