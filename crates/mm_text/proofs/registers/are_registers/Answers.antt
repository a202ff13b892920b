use Rattle.std.proofs.Common.{refl}
use Rattle.mm_text.proofs.RegisterLemmas.{fresh-none}
use Rattle.mm_text.proofs.registers.are_registers.Goals as goal

pub loop-item-init : goal.loop-item-init
loop-item-init c = record { size = refl; rest = fresh-none c.args.registers.now }
