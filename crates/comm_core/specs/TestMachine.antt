-- A machine for tests, which no program uses.
use Rattle.std.specs.Prelude.{◌-◌, if◌then◌else◌, nat_le, [], length, take, replicate}
use Rattle.mm_base.specs.declared.entry.Outcome.{Outcome}
use Rattle.mm_base.specs.declared.entry.Request.{Request}
use Rattle.mm_base.specs.declared.entry.Shape.TheVariants.{BadLength, Dispatched}

-- It replies with all bytes of the request but the last one, and its status is how many bytes the request has.
abbrev pub clipped : Request → Outcome
clipped request = record {
  shape = if nat_le 24 (length request.bytes) then Dispatched (record { 0 = replicate 16 0 }) else BadLength;
  status = length request.bytes;
  reply = take (length request.bytes - 1) request.bytes;
  chain = [];
  root = [];
}
