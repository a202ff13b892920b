use Rattle.std.proofs.Common.{◌≡◌, take}
use Rattle.platform_model.specs.Opening.{opening_state}
use Rattle.platform_model.proofs.platform.Platform.new.Given as goal

-- The cells hold what the lines so far say.
abbrev pub invariant-loop-cell : goal.invariant-loop-cell
invariant-loop-cell l = l.platform ≡ opening_state (take l.cell-index l.cell-items)
