use Rattle.std.proofs.Common.{length, arith}
use Rattle.mm_memory.proofs.MemoryLemmas.{all_live}
use Rattle.sample_domains.proofs.MakingLemmas.{small_bytes, whole_after}
use Rattle.sample_domains.proofs.making.put.Goals as goal

pub copy_in-requires-clause-live : goal.copy_in-requires-clause-live
copy_in-requires-clause-live c =
    all_live 8192 c.args.at (length c.args.piece.now) c.args.memory.now.live c.requires.live (omega (arith, c.if-piece-at.true, c.if-at-le33554432.true))

pub returns-then-piece-at : goal.returns-then-piece-at
returns-then-piece-at c =
    whole_after c.args.memory.now c.copy_in.new.self c.args.at c.args.piece.now c.requires (small_bytes c.args.piece.now c.type_inv.piece)
    (omega (arith, c.if-piece-at.true, c.if-at-le33554432.true)) c.copy_in.ensures.bytes c.copy_in.ensures.live
