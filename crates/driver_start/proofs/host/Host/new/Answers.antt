use Rattle.driver_start.proofs.host.Host.new.Goals as goal

pub returns : goal.returns
returns g c = λ i. record { tables = c.args.tables; taken = c.in_ok-taken.ensures i }
