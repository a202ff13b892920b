use Rattle.mm_core.proofs.ScriptLemmas.{Added}
use Rattle.mm_core.proofs.script_core.scripted.Given as goal

-- the stubs so far are registered
abbrev pub invariant-loop-handler : goal.invariant-loop-handler
invariant-loop-handler l = Added l.handlers l.handler-index l.registry
