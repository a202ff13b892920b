use Rattle.std.proofs.Common.{length, arith, ap}
use Rattle.mm_text.proofs.BuilderLemmas.{poke-fits, fill-fits, ring-fits, step-fits, steps-fit, run-fits}
use Rattle.mm_text.proofs.script_builder.ScriptBuilder.take.Goals as goal

pub overflow_cast-lane : goal.overflow_cast-lane
overflow_cast-lane c = let h = poke-fits c.args.self.now c.args.line.now _ _ _ c.in-Poke.is c.requires.accepted in omega arith

pub overflow_cast-word : goal.overflow_cast-word
overflow_cast-word c = let h = poke-fits c.args.self.now c.args.line.now _ _ _ c.in-Poke.is c.requires.accepted in omega arith

pub overflow_cast-lane-in-Fill : goal.overflow_cast-lane-in-Fill
overflow_cast-lane-in-Fill c = let h = fill-fits c.args.self.now c.args.line.now _ _ c.in-Fill.is c.requires.accepted in omega arith

pub take_fill-requires : goal.take_fill-requires
take_fill-requires c =
    let h = fill-fits c.args.self.now c.args.line.now _ _ c.in-Fill.is c.requires.accepted in
    omega (arith, ap length c.as_slice.ensures)

pub overflow_cast-lane-in-Ring : goal.overflow_cast-lane-in-Ring
overflow_cast-lane-in-Ring c = let h = ring-fits c.args.self.now c.args.line.now _ _ c.in-Ring.is c.requires.accepted in omega arith

pub overflow_cast-lane-in-Step : goal.overflow_cast-lane-in-Step
overflow_cast-lane-in-Step c = let h = step-fits c.args.self.now c.args.line.now _ c.in-Step.is c.requires.accepted in omega arith

pub overflow_cast-lane-in-Steps : goal.overflow_cast-lane-in-Steps
overflow_cast-lane-in-Steps c = let h = steps-fit c.args.self.now c.args.line.now _ _ c.in-Steps.is c.requires.accepted in omega arith

pub overflow_cast-lane-in-Run : goal.overflow_cast-lane-in-Run
overflow_cast-lane-in-Run c = let h = run-fits c.args.self.now c.args.line.now _ c.in-Run.is c.requires.accepted in omega arith
