use Rattle.supervisor_calls.proofs.LoadingLemmas.{piece_keeps, small_bytes}
use Rattle.supervisor_calls.proofs.tables.Tables.load.Goals as goal

pub invariant_of-self : goal.invariant_of-self
invariant_of-self g c = record {
  pools = c.self.invariant.pools;
  reserves = c.self.invariant.reserves;
  keeps =
      piece_keeps _ c.copy_in.new.self.bytes c.args.bytes.now c.copy_in.new.self.live c.args.at c.self.invariant.keeps
      (small_bytes c.args.bytes.now c.type_inv.bytes) c.requires.within c.copy_in.ensures.bytes c.copy_in.ensures.live;
}
