use Rattle.ebc_machine.proofs.EnterLemmas.{entered_ok, entered_err}
use Rattle.ebc_machine.proofs.invocation.enter.Goals as goal

pub returns-in-Ok : goal.returns-in-Ok
returns-in-Ok g c =
    entered_ok g.B.Bus.meaning c.args.stack c.args.address c.args.arguments c.args.bus.now c.write_words.new.bus _
    c.opening_registers.result c.requires c.frame_of-words.ensures
    c.opening_registers.ensures c.in-Ok.ensures

pub returns-in-Err : goal.returns-in-Err
returns-in-Err g c =
    entered_err g.B.Bus.meaning c.args.stack c.args.address c.args.arguments c.args.bus.now c.write_words.new.bus _
    c.in-Err.denial c.frame_of-words.ensures c.in-Err.ensures
