use Rattle.std.proofs.Common.{◌≡◌, ◌∙◌, Some, false, length, refl, ◌++◌, ap, arith}
use Rattle.mm_base.specs.Statuses.{not_found}
use Rattle.mm_base.specs.declared.entry.Shape.TheVariants.{Dispatched}
use Rattle.mmi_registry.specs.ChainLaws.{result_from}
use Rattle.mm_core.specs.ChainInside.{managed}
use Rattle.mm_core.specs.HandlerChain.{invocations_of, statuses_of}
use Rattle.mm_core.specs.StepInside.{chain_in}
use Rattle.mm_core.proofs.StepLemmas.{length-chain, runs_are, status_is, opened_message, dispatched_buffer, dispatched_core}
use Rattle.mm_core.proofs.entry_step.dispatch.Goals as goal

pub split_request-requires : goal.split_request-requires
split_request-requires c = record {
  header = c.requires.addressed.header;
  whole = c.requires.addressed.whole;
  fits = c.requires.addressed.fits;
}

pub open-requires : goal.open-requires
open-requires c = record {
  front = ap (λ b. b.front) c.requires.buffer;
  message = ap (λ b. b.message) c.requires.buffer;
  room = omega (arith, c.split_request.ensures.within, c.requires.reply_room);
}

pub manage-result-requires : goal.manage-result-requires
manage-result-requires c =
    let few = length-chain c.args.guid c.args.core.now.site.handlers in
    record {
      given = refl;
      room = omega (arith, c.requires.chain_room, ap length c.requires.chain, few);
      blanks = omega (arith, c.requires.blanks, few);
    }

pub returns : goal.returns
returns c =
    let core = c.args.core.now in
    let request = c.args.request.now in
    let guid = c.args.guid in
    let split = c.split_request.ensures in
    let message =
    opened_message core request guid c.args.buffer.now c.open.new.self _ _ split.header split.message split.size c.open.ensures in
    let runs : managed core (Some guid) request.saved c.open.new.self.message ≡ chain_in core request (Dispatched guid) =
    runs_are core request guid c.open.new.self.message message in
    record {
      status =
          status_is core request guid _ c.manage-result.result c.entry_status.ensures
          (c.manage-result.ensures.result ∙ ap (λ rs. result_from false not_found (statuses_of rs)) runs);
      reply =
          dispatched_buffer core request guid c.args.buffer.now c.open.new.self _ _ split.header split.message split.size c.open.ensures
          c.manage-result.new.buffer c.close.new.self c.requires.buffer c.manage-result.ensures.message c.close.ensures;
      chain =
          ap (λ r. r.items) c.manage-result.ensures.invocations
          ∙ ap (λ xs. xs ++ invocations_of (managed core (Some guid) request.saved c.open.new.self.message)) c.requires.chain
          ∙ ap invocations_of runs;
      core = dispatched_core core request guid c.manage-result.new.core c.open.new.self.message message c.manage-result.ensures.core;
      blanks = omega (arith, c.manage-result.ensures.blanks, ap length runs);
    }
