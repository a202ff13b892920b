use Rattle.std.proofs.Common.{◌≡◌, vec_len}
use Rattle.mm_core.proofs.ChainRunLemmas.{Halfway}
use Rattle.mm_core.proofs.chain.manage.Given as goal

-- What is done so far, and what the handlers from k on give, is the whole chain; and of the core only that changed which a step may change.
abbrev pub invariant-loop-k : goal.invariant-loop-k
invariant-loop-k l =
    Halfway record {
      core = l.fn.core;
      guid = l.guid;
      saved = l.fn.saved;
      buffer = l.fn.buffer;
      made = l.fn.invocations;
      blanks = vec_len l.fn.blanks;
    } l.k record { result = l.result; live = l.core.live; buffer = l.buffer; made = l.invocations; blanks = vec_len l.blanks }
    × (l.core ≡ record l.fn.core { live = l.core.live })
