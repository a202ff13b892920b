use Rattle.supervisor_calls.proofs.GivenLemmas.{given_by}
use Rattle.supervisor_calls.proofs.holdings.has_taken.Goals as goal

pub returns : goal.returns
returns c =
    given_by c.all_taken.result c.args.base c.args.reserve.now c.args.address c.args.pages c.if-address-base.false c.if-address-base-ne0.false c.all_taken.ensures
