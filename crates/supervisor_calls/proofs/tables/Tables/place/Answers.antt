use Rattle.std.proofs.Common.{◌∙◌, sym, arith}
use Rattle.supervisor_calls.proofs.TableLemmas.{are_of_device, are_stored, place_fits}
use Rattle.supervisor_calls.proofs.tables.Tables.place.Goals as goal

pub overflow_sub-result : goal.overflow_sub-result
overflow_sub-result g c =
    (place_fits c.args.self.now c.keeps.ensures.tables c.keeps.ensures.placed c.args.image c.args.at c.args.n c.args.trapped c.args.right c.requires.some c.requires.passes (sym c.is_device.ensures ∙ c.if-is_device.false)).0

pub overflow_cast-result : goal.overflow_cast-result
overflow_cast-result g c =
    let fits = place_fits c.args.self.now c.keeps.ensures.tables c.keeps.ensures.placed c.args.image c.args.at c.args.n c.args.trapped c.args.right c.requires.some c.requires.passes (sym c.is_device.ensures ∙ c.if-is_device.false) in
    omega (arith, fits.0, fits.1)

pub returns-then-is_device-clause-device : goal.returns-then-is_device-clause-device
returns-then-is_device-clause-device g c =
    are_of_device c.args.self.now c.keeps.ensures.tables c.keeps.ensures.placed c.args.image c.args.at c.args.n c.args.trapped c.args.right c.requires.some c.requires.passes (sym c.is_device.ensures ∙ c.if-is_device.true)

pub returns-else-is_device-clause-stored : goal.returns-else-is_device-clause-stored
returns-else-is_device-clause-stored g c =
    are_stored c.args.self.now c.keeps.ensures.tables c.keeps.ensures.placed c.args.image c.args.at c.args.n c.args.trapped c.args.right c.requires.some c.requires.passes (sym c.is_device.ensures ∙ c.if-is_device.false)
