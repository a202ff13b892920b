use Rattle.std.proofs.Common.{◌≡◌, ℕ, ◌<◌, false}
use Rattle.pe_loader.specs.Sections.{holds_code, part_of}
use Rattle.pe_loader.proofs.sections.is_code.Given as goal

abbrev pub invariant-loop-k : goal.invariant-loop-k
invariant-loop-k l = (j : ℕ) → j < l.k → holds_code l.place (part_of l.bytes l.layout j) ≡ false
