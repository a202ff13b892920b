-- What bounds the outcomes of a machine.
use Rattle.std.specs.Prelude.{◌+◌, ◌≤◌, ℕ, length, All}
use Rattle.mm_base.specs.declared.entry.Request.{Request}
use Rattle.mm_base.specs.declared.entry.Outcome.{Outcome}
use Rattle.mm_base.specs.declared.invocation.Invocation.{Invocation}

-- an invocation has at most 8 denials and 16 cell writes
pub record HasFewRecords (invocation : Invocation) : Type 0 where
  pub denials : length invocation.denials ≤ 8
  pub writes : length invocation.writes ≤ 16

-- An outcome has at most this many invocations, with few records each, and a reply no longer than the request.
pub record IsWithin (most : ℕ) (request : Request) (outcome : Outcome) : Type 0 where
  pub calls : length outcome.chain + length outcome.root ≤ most
  pub chain : All HasFewRecords outcome.chain
  pub root : All HasFewRecords outcome.root
  pub reply : length outcome.reply ≤ length request.bytes
