-- A machine for tests, which no program uses.
use Rattle.std.specs.Prelude.{ℕ, []}
use Rattle.mm_base.specs.declared.entry.Outcome.{Outcome}
use Rattle.mm_base.specs.declared.entry.Request.{Request}
use Rattle.mm_base.specs.declared.entry.Shape.TheVariants.{BadLength}

-- It replies with the request's own bytes, and its status is the length of the request before.
abbrev pub recalled : ℕ → Request → Outcome
recalled last request = record { shape = BadLength; status = last; reply = request.bytes; chain = []; root = [] }
