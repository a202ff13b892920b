use Rattle.std.proofs.Common.{◌≡◌, ◌∙◌, sym, ap, length, true, inl, inr, arith}
use Rattle.mm_base.specs.declared.entry.Shape.{Shape}
use Rattle.mm_core.specs.HandlerChain.{invocations_of}
use Rattle.mm_core.specs.MachineLemmas.{is_addressed}
use Rattle.mm_core.specs.StepInside.{after_chain, chain_in, status_in, reply_in}
use Rattle.mm_core.proofs.StepLemmas.{is_refused, refused_chain, refused_buffer, refused_core}
use Rattle.mm_core.proofs.StepLemmas.{bad_length_status, bad_header_status, no_handler_status}
use Rattle.mm_core.proofs.entry_step.answer.Goals as goal

pub dispatch-requires : goal.dispatch-requires
dispatch-requires c = record {
  addressed =
      is_addressed c.args.core.now.site c.args.request.now c.in-Dispatched.guid (c.requires.shape ∙ c.in-Dispatched.is);
  buffer = c.requires.buffer;
  reply_room = c.requires.reply_room;
  chain = c.requires.chain;
  chain_room = c.requires.chain_room;
  blanks = c.requires.blanks;
}

pub returns-in-NoHandler : goal.returns-in-NoHandler
returns-in-NoHandler c =
    let core = c.args.core.now in
    let request = c.args.request.now in
    let refused : is_refused c.args.shape ≡ true = ap is_refused c.in-NoHandler.is in
    let none = refused_chain core request c.args.shape refused in
    record {
      status = no_handler_status core request _ ∙ ap (status_in core request) (sym c.in-NoHandler.is);
      reply = refused_buffer core request c.args.shape c.args.buffer.now refused c.requires.buffer;
      chain = c.requires.chain ∙ ap invocations_of (sym none);
      core = refused_core core request c.args.shape refused;
      blanks = omega (arith, ap length none);
    }

pub returns-in-BadLength : goal.returns-in-BadLength
returns-in-BadLength c =
    let core = c.args.core.now in
    let request = c.args.request.now in
    let refused : is_refused c.args.shape ≡ true =
    elim c.in-BadLength.is [ inl is ↦ ap is_refused is | inr is ↦ ap is_refused is ] in
    let none = refused_chain core request c.args.shape refused in
    record {
      status =
          elim c.in-BadLength.is [
            | inl is ↦ bad_length_status core request ∙ ap (status_in core request) (sym is)
            | inr is ↦ bad_header_status core request ∙ ap (status_in core request) (sym is)
          ];
      reply = refused_buffer core request c.args.shape c.args.buffer.now refused c.requires.buffer;
      chain = c.requires.chain ∙ ap invocations_of (sym none);
      core = refused_core core request c.args.shape refused;
      blanks = omega (arith, ap length none);
    }

pub returns-in-Dispatched : goal.returns-in-Dispatched
returns-in-Dispatched c =
    let core = c.args.core.now in
    let request = c.args.request.now in
    let is = sym c.in-Dispatched.is in
    record {
      status = c.dispatch.ensures.status ∙ ap (status_in core request) is;
      reply = c.dispatch.ensures.reply ∙ ap (λ (s : Shape). record c.args.buffer.now { front = reply_in core request s }) is;
      core = c.dispatch.ensures.core ∙ ap (after_chain core request) is;
      chain = c.dispatch.ensures.chain ∙ ap (λ (s : Shape). invocations_of (chain_in core request s)) is;
      blanks = omega (arith, c.dispatch.ensures.blanks, ap (λ (s : Shape). length (chain_in core request s)) is);
    }
