use Rattle.pool_tree.proofs.SizeLemmas.{size_found}
use Rattle.std.proofs.Common.{◌≤◌, arith}
use Rattle.pool_tree.specs.TreeInside.{part_bytes}
use Rattle.pool_tree.proofs.pool.level_for.Goals as goal

pub returns-clause-size : goal.returns-clause-size
returns-clause-size c =
    let holds : c.args.n ≤ part_bytes c.loop-level.level = omega (arith, c.bytes_at.ensures, c.from.ensures) in
    size_found c.args.n c.loop-level.level c.loop-level.invariant.low holds c.loop-level.invariant.short
