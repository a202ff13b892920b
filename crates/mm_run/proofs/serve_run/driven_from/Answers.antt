use Rattle.std.specs.Option.{option_copied}
use Rattle.mm_run.proofs.ServeLemmas.{driven_so}
use Rattle.mm_run.proofs.serve_run.driven_from.Goals as goal

pub returns : goal.returns
returns c =
    let w = c.in_ok-world.world in
    driven_so c.args.core c.args.script.now c.args.volume.now (option_copied c.args.policy) c.args.parts.now w c.entries.result.now
    c.in_ok-lanes.lanes c.in_ok-text.text c.in_ok-world.ensures.words c.in_ok-world.ensures.lanes c.in_ok-lanes.ensures.values
    c.in_ok-lanes.ensures.sizes c.in_ok-world.ensures.stands c.entries.ensures c.in_ok-text.ensures
