use Rattle.std.proofs.Common.{◌<◌, arith}
use Rattle.mm_base.specs.declared.access.Right.TheVariants.{Read}
use Rattle.supervisor_calls.specs.Domains.{trapped_of}
use Rattle.supervisor_calls.proofs.CellLemmas.{saved_there}
use Rattle.supervisor_calls.proofs.domain.Domain.read_saved.Goals as goal

pub offset_bounds-self-inside-register : goal.offset_bounds-self-inside-register
offset_bounds-self-inside-register g c =
    let d = c.pass_read.new.self in
    let there : c.args.register < 19 = saved_there d.tables.site d.image Read (trapped_of d) c.args.register c.in_ok-pass_read.ensures.passes in
    omega (arith, there)

pub bounds-self-inside-register : goal.bounds-self-inside-register
bounds-self-inside-register g c =
    let d = c.pass_read.new.self in
    let there : c.args.register < 19 = saved_there d.tables.site d.image Read (trapped_of d) c.args.register c.in_ok-pass_read.ensures.passes in
    omega (arith, there)
