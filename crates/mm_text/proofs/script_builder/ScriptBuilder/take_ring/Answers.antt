use Rattle.mm_text.proofs.script_builder.ScriptBuilder.take_ring.Goals as goal

pub returns : goal.returns
returns c = rw (c.saved_registers.ensures) at c.take_event.ensures
