use Rattle.std.proofs.Common.{ap, sym}
use Rattle.mm_text.specs.LineReaderInside.{or_unreadable}
use Rattle.mm_text.proofs.GuidLemmas.{owner-bytes}
use Rattle.mm_text.proofs.fields.read_owner.Goals as goal

pub returns-in_default : goal.returns-in_default
returns-in_default c = sym (ap or_unreadable (owner-bytes c.args.word.now c.in_default.ensures.cases.0))
