-- What an outcome tells the processor that asked.
use Rattle.std.specs.Prelude.{ℕ}
use Rattle.mm_base.specs.declared.entry.Outcome.{Outcome}
use Rattle.mm_base.specs.declared.receipt.Receipt.{Receipt}
use Rattle.mm_base.specs.Entry.{was_dispatched}

-- the receipt of the outcome at this position
abbrev pub receipt_of : ℕ → Outcome → Receipt
receipt_of position outcome =
    record {
      position = position;
      dispatched = was_dispatched outcome.shape;
      status = outcome.status;
      bytes = outcome.reply;
    }
