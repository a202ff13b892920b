use Rattle.std.proofs.Common.{◌∙◌}
use Rattle.ebc_alu.proofs.ShiftLemmas.{right-is}
use Rattle.ebc_alu.proofs.shifts.shift_right.Goals as goal

pub returns : goal.returns
returns c =
    c.unbounded_shr.ensures ∙ right-is c.args.a c.args.b c.shift_count.result c.ranges.a.fits c.shift_count.ensures
