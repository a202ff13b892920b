use Rattle.std.proofs.Common.{◌≡◌, map, reverse}
use Rattle.std.proofs.lemmas.Iterator.Adapters.{YieldsList-from_rev_slice}
use Rattle.std.proofs.lemmas.Iterator.Consumers.{YieldsList-end}
use Rattle.dispatcher.proofs.StepLemmas.{put_in_front}
use Rattle.dispatcher.proofs.families.put_families.Goals as goal

pub returns : goal.returns
returns c =
    let all : map (λ (member : _). member.now) c.loop-member.yielded ≡ reverse c.args.members.now =
    (YieldsList-end (YieldsList-from_rev_slice c.args.members.now cc) c.loop-member.yielded _ c.loop-member.yielded_by _ _ c.in-None.is c.next.ensures.steps).0 in
    put_in_front c.args.steps.now.items _ c.args.members.now _ c.loop-member.invariant all
