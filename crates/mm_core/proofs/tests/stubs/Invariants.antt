use Rattle.std.proofs.Common.{◌≡◌, length}
use Rattle.mm_core.specs.Scripted.{AreStubs}
use Rattle.mm_core.proofs.tests.stubs.Given as goal

-- so far they are stubs, as many as were listed
abbrev pub invariant-loop-guid : goal.invariant-loop-guid
invariant-loop-guid l = record { stubs : AreStubs l.handlers; count : length l.handlers ≡ l.guid-index }
