use Rattle.std.proofs.Common.{◌≡◌, map}
use Rattle.std.specs.List.{range_with_len}
use Rattle.pe_loader.specs.Sections.{part_at}
use Rattle.driver_start.proofs.driver.Driver.parts.Given as goal

abbrev pub invariant-loop-k : goal.invariant-loop-k
invariant-loop-k l = l.parts ≡ map (part_at l.fn.self.bytes) (range_with_len 0 l.k)
