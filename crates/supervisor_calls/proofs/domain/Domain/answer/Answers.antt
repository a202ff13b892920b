use Rattle.std.proofs.Common.{inr, subst}
use Rattle.mm_base.specs.Bus.{IsOutOfMemory}
use Rattle.supervisor_calls.specs.Services.{deed_of, region_in}
use Rattle.supervisor_calls.proofs.DeedLemmas.{in_memory}
use Rattle.supervisor_calls.proofs.domain.Domain.answer.Goals as goal

pub returns : goal.returns
returns g c =
    let before = c.args.self.now in
    let deed = deed_of before.image (region_in before) c.args.service c.args.arguments.now in
    let made = c.answer_in_place.ensures in
    record {
      answer = inr made;
      memory = λ out. absurd (in_memory deed before (subst IsOutOfMemory made.0 out));
      unchanged = λ out. absurd (in_memory deed before (subst IsOutOfMemory made.0 out));
    }
