use Rattle.std.proofs.Common.{length, ap, arith}
use Rattle.supervisor_calls.specs.Tables.{TablesState}
use Rattle.supervisor_calls.proofs.TableLemmas.{some_width, written_keeps}
use Rattle.supervisor_calls.proofs.tables.Tables.put.Goals as goal

pub invariant_of-self : goal.invariant_of-self
invariant_of-self g c =
    let same = ap (λ (tables : TablesState). length tables.live.memory) c.self.view_is in
    record {
      pools = c.self.invariant.pools;
      reserves = c.self.invariant.reserves;
      keeps =
          written_keeps _ c.write.new.self.bytes c.write.new.self.live c.self.invariant.keeps c.in-Some.place c.args.n c.args.value (some_width c.args.n c.requires.width).1
          (omega (arith, c.in-Some.ensures.stored.within, same)) c.write.ensures.bytes c.write.ensures.live;
    }
