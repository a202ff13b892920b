use Rattle.std.proofs.Common.{◌≡◌, ◌<◌, length}
use Rattle.std.specs.List.{slice_get}
use Rattle.mm_base.specs.Chain.{entries_of}
use Rattle.mm_base.proofs.entries.Entries.get.Given as goal

-- what is left of the chain is its front up to the place
abbrev pub invariant-loop-chain : goal.invariant-loop-chain
invariant-loop-chain l = record {
  place : l.place ≡ length (entries_of l.chain);
  ahead : l.k < l.place;
  same : slice_get (entries_of l.chain) l.k ≡ slice_get l.self l.k;
}
