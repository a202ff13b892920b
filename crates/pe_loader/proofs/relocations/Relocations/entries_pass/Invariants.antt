use Rattle.std.proofs.Common.{◌≡◌, ◌+◌, ◌-◌, ◌*◌}
use Rattle.std.specs.List.{list_all}
use Rattle.pe_loader.specs.Fixups.{fixup_passes, fixups_from}
use Rattle.pe_loader.specs.ReadingInside.{form_in, IsReady}
use Rattle.pe_loader.proofs.relocations.Relocations.entries_pass.Given as goal

abbrev pub invariant-loop-k : goal.invariant-loop-k
invariant-loop-k l = record {
  ready : IsReady l.bytes l.self.layout l.window l.room (l.at + 2 * l.k);
  rest : list_all (fixup_passes l.self.layout.size l.self.directory) (fixups_from (form_in l.bytes l.self.layout) l.page (l.at + 2 * l.k) (l.count - l.k))
      ≡ list_all (fixup_passes l.self.layout.size l.self.directory) (fixups_from (form_in l.bytes l.self.layout) l.page l.at l.count);
}
