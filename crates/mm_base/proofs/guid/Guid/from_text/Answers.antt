use Rattle.std.proofs.lemmas.Bool.{false≢true}
use Rattle.mm_base.proofs.GuidLemmas.{none_of}
use Rattle.mm_base.proofs.guid.Guid.from_text.Goals as goal

pub returns-in-Err : goal.returns-in-Err
returns-in-Err c = rw (none_of _ (λ h. false≢true (c.in-Err.ensures.ok.1 h)))
