use Rattle.image_groups.specs.Groups.{group_of}
use Rattle.mm_groups.proofs.CoreLemmas.{stepped_erased, stepped_share}
use Rattle.mm_groups.proofs.two_cores.step_erased.Goals as goal

pub returns-clause-share : goal.returns-clause-share
returns-clause-share c =
    stepped_share (group_of c.args.group.now) c.args.left.now c.args.right.now c.step.new.self c.step-2.new.self c.args.a.now.entry.request
    c.args.b.now.entry.request c.step.new.prepared.entry.outcome c.step-2.new.prepared.entry.outcome c.step.ensures.outcome c.step-2.ensures.outcome
    c.step.ensures.after c.step-2.ensures.after

pub returns-clause-erased : goal.returns-clause-erased
returns-clause-erased c =
    stepped_erased (group_of c.args.group.now) c.args.left.now c.args.right.now c.step.new.self c.step-2.new.self c.args.a.now.entry.request
    c.args.b.now.entry.request c.step.new.prepared.entry.outcome c.step-2.new.prepared.entry.outcome c.step.ensures.outcome c.step-2.ensures.outcome
    c.step.ensures.after c.step-2.ensures.after
