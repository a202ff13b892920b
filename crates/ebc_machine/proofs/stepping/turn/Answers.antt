use Rattle.std.proofs.Common.{get_or}
use Rattle.ebc_machine.proofs.StepLemmas.{few_bytes, denied_two, no_length, denied_whole, no_instruction, does_row}
use Rattle.ebc_machine.proofs.stepping.turn.Goals as goal

pub returns-in-Err : goal.returns-in-Err
returns-in-Err g c =
    denied_two g.B.Bus.meaning c.args.regs.now c.args.bus.now c.in-Err.denial c.fetch.new.self c.in-Err.ensures

pub returns-in-Err-length : goal.returns-in-Err-length
returns-in-Err-length g c =
    no_length g.B.Bus.meaning c.args.regs.now c.args.bus.now c.in-Ok.two c.fetch.new.self c.in-Ok.ensures
    c.in-Err-length.ensures.value

pub fetch-requires-2-clause-low : goal.fetch-requires-2-clause-low
fetch-requires-2-clause-low g c =
    (few_bytes (get_or c.in-Ok.two 0 0) (get_or c.in-Ok.two 1 0) c.in-Ok-length.n c.in-Ok-length.ensures.found).0

pub fetch-requires-2-clause-high : goal.fetch-requires-2-clause-high
fetch-requires-2-clause-high g c =
    (few_bytes (get_or c.in-Ok.two 0 0) (get_or c.in-Ok.two 1 0) c.in-Ok-length.n c.in-Ok-length.ensures.found).1

pub returns-in-Err-fetch : goal.returns-in-Err-fetch
returns-in-Err-fetch g c =
    denied_whole g.B.Bus.meaning c.args.regs.now c.args.bus.now c.in-Ok.two c.fetch.new.self c.in-Ok.ensures
    c.in-Ok-length.n c.in-Ok-length.ensures.value c.in-Err-fetch.denial c.fetch-2.new.self c.in-Err-fetch.ensures

pub decode_fetched-requires : goal.decode_fetched-requires
decode_fetched-requires g c =
    (few_bytes (get_or c.in-Ok.two 0 0) (get_or c.in-Ok.two 1 0) c.in-Ok-length.n c.in-Ok-length.ensures.found).1

pub returns-in-Ok-decode_fetched : goal.returns-in-Ok-decode_fetched
returns-in-Ok-decode_fetched g c =
    does_row g.B.Bus.meaning c.args.regs.now c.args.bus.now c.in-Ok.two c.fetch.new.self c.in-Ok.ensures
    c.in-Ok-length.n c.in-Ok-length.ensures.value c.in-Ok-fetch.bytes c.fetch-2.new.self c.in-Ok-fetch.ensures
    c.in-Ok-decode_fetched.ins c.in-Ok-decode_fetched.size c.perform.result c.perform.new.regs c.perform.new.bus
    c.in-Ok-decode_fetched.ensures.value c.perform.ensures

pub returns-in-Err-decode_fetched : goal.returns-in-Err-decode_fetched
returns-in-Err-decode_fetched g c =
    no_instruction g.B.Bus.meaning c.args.regs.now c.args.bus.now c.in-Ok.two c.fetch.new.self c.in-Ok.ensures
    c.in-Ok-length.n c.in-Ok-length.ensures.value c.in-Ok-fetch.bytes c.fetch-2.new.self c.in-Ok-fetch.ensures
    c.in-Err-decode_fetched.ensures.value
