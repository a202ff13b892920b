use Rattle.std.proofs.Common.{◌∙◌, ap}
use Rattle.ebc_alu.specs.Reading.{width, low_bits}
use Rattle.ebc_alu.proofs.ShiftLemmas.{left-is}
use Rattle.ebc_alu.proofs.shifts.shift_left.Goals as goal

pub returns : goal.returns
returns c =
    c.operand.ensures
    ∙ ap (low_bits (width c.args.wide)) c.unbounded_shl.ensures
    ∙ left-is c.args.wide c.args.a c.args.b c.shift_count.result c.shift_count.ensures
