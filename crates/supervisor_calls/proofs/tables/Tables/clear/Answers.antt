use Rattle.std.proofs.Common.{◌+◌, ◌≤◌, ℕ, sym, subst}
use Rattle.mm_base.specs.Frames.{zeros}
use Rattle.mm_memory.proofs.PageLemmas.{length-zeros}
use Rattle.supervisor_calls.proofs.LoadingLemmas.{piece_keeps, small_zeros}
use Rattle.supervisor_calls.proofs.tables.Tables.clear.Goals as goal

pub invariant_of-self : goal.invariant_of-self
invariant_of-self g c =
    let P : ℕ → Type 0 = λ n. c.args.at + n ≤ 33554432 in
    record {
      pools = c.self.invariant.pools;
      reserves = c.self.invariant.reserves;
      keeps =
          piece_keeps _ c.clear.new.self.bytes (zeros c.args.count) c.clear.new.self.live c.args.at c.self.invariant.keeps
          (small_zeros c.args.count) (subst P (sym (length-zeros c.args.count)) c.requires.within) c.clear.ensures.bytes c.clear.ensures.live;
    }
