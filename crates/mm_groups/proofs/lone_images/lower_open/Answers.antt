use Rattle.mm_groups.proofs.LoneLemmas.{lowered_closed}
use Rattle.mm_groups.proofs.lone_images.lower_open.Goals as goal

pub returns : goal.returns
returns c =
    lowered_closed c.args.core.now.site.supervised c.args.core.now.site.handlers c.args.flags.now c.lower_by_handlers.new.flags
    c.lower_by_units.new.flags c.lower_by_units-2.new.flags c.lower_by_units-3.new.flags c.lower_by_handlers.ensures
    c.lower_by_units.ensures.after c.lower_by_units-2.ensures.after c.lower_by_units-3.ensures.after
