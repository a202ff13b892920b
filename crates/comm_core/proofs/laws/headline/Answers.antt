use Rattle.comm_core.proofs.HeadlineLemmas.{headline_of}
use Rattle.comm_core.proofs.laws.headline.Goals as goal

pub returns : goal.returns
returns g c = λ machine events w s. headline_of g.M.Machine.stepped machine events w (λ n q. (g.met.M.Machine.within n q).reply) s
