-- Words on requests, outcomes and entries.
use Rattle.std.specs.Prelude.{Bool, true, false, [], replicate}
use Rattle.mm_base.specs.declared.cells.Saved.{Saved}
use Rattle.mm_base.specs.declared.entry.Shape.{Shape}
use Rattle.mm_base.specs.declared.entry.Shape.TheVariants.{BadLength, BadHeader, NoHandler, Dispatched}
use Rattle.mm_base.specs.declared.entry.Entry.{Entry}

-- whether handlers of the request's GUID ran
abbrev pub was_dispatched : Shape → Bool
was_dispatched BadLength = false
was_dispatched BadHeader = false
was_dispatched (NoHandler g) = false
was_dispatched (Dispatched g) = true

-- all saved registers 0
abbrev pub no_registers : Saved
no_registers = record { 0 = replicate 19 0 }

-- neither a request nor an outcome yet
abbrev pub blank_entry : Entry
blank_entry = record {
  request = record { lane = 0; length = 0; bytes = []; saved = no_registers };
  outcome = record { shape = BadLength; status = 0; reply = []; chain = []; root = [] };
}
