use Rattle.std.proofs.Common.{arith}
use Rattle.std.proofs.lemmas.Bool.Decides.{nat_tests}
use Rattle.ebc_alu.proofs.IndexLemmas.{immediate-is, immediate-whole}
use Rattle.ebc_alu.proofs.immediate.immediate_value.Goals as goal

pub returns-in-1 : goal.returns-in-1
returns-in-1 c =
    let is = c.in-1.is in
    immediate-is c.args.bytes 8 c.args.raw c.extend_byte.result (omega arith) c.extend_byte.ensures

pub returns-in-2 : goal.returns-in-2
returns-in-2 c =
    let is = c.in-2.is in
    immediate-is c.args.bytes 16 c.args.raw c.extend_word.result (omega arith) c.extend_word.ensures

pub returns-in-4 : goal.returns-in-4
returns-in-4 c =
    let is = c.in-4.is in
    immediate-is c.args.bytes 32 c.args.raw c.extend_double.result (omega arith) c.extend_double.ensures

pub returns-in_default : goal.returns-in_default
returns-in_default c =
    immediate-is c.args.bytes 64 c.args.raw c.args.raw (grind (arith, nat_tests)) (immediate-whole c.args.raw c.ranges.raw.fits)
