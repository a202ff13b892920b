-- Within which limits a script is that was read from a text.
use Rattle.std.specs.Prelude.{◌≤◌, length}
use Rattle.std.specs.List.{All, sum_by}
use Rattle.mm_base.specs.Cells.{IsOpening}
use Rattle.mm_core.specs.Scripted.{AreStubs}
use Rattle.comm_core.specs.WorldReadiness.{IsOfWorld, rings_in}
use Rattle.comm_core.specs.declared.script.Script.{Script}

-- 1 to 16 lanes of 3 to 512 data words; cells that the platform has, with values that they may hold; at most 64 handlers, each
-- a stub; at most 8,192 rings; and events of lanes and words that are there
pub record IsWithinLimits (script : Script) : Type 0 where
  pub lanes_low : 1 ≤ script.lanes
  pub lanes_high : script.lanes ≤ 16
  pub words_low : 3 ≤ script.words
  pub words_high : script.words ≤ 512
  pub opening : IsOpening script.opening.cells
  pub few : length script.handlers ≤ 64
  pub stubs : AreStubs script.handlers
  pub rings : sum_by rings_in script.events ≤ 8192
  pub events : All (IsOfWorld script.lanes script.words) script.events
