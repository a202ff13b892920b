use Rattle.std.proofs.Common.{ap, rules}
use Rattle.std.proofs.lemmas.List.FromFn.{fill_by_all}
use Rattle.mm_text.specs.ScriptText.{value_of}
use Rattle.mm_text.proofs.registers.saved_registers.Goals as goal

pub returns : goal.returns
returns c =
    ap (λ values. record { 0 = values })
    (fill_by_all (value_of c.args.registers.now) c.loop-register.values 19 0 c.loop-register.invariant.size (search rules))
