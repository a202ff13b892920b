use Rattle.std.proofs.Common.{◌-◌, ◌≤◌}
use Rattle.pe_loader.specs.Fixups.{directory_end}
use Rattle.pe_loader.specs.ReadingInside.{form_in, IsReady}
use Rattle.pe_loader.proofs.BlockLemmas.{Walked}
use Rattle.pe_loader.proofs.relocations.Relocations.pass_through.Given as goal

abbrev pub invariant-loop-head : goal.invariant-loop-head
invariant-loop-head l = record {
  walked : Walked (form_in l.bytes l.self.layout) l.self.layout.size l.self.directory l.at;
  near : l.at ≤ directory_end l.self.directory;
  ready : IsReady l.bytes l.self.layout l.window l.room l.at;
}

abbrev pub decreases-loop-head : goal.decreases-loop-head
decreases-loop-head l = directory_end l.self.directory - l.at
