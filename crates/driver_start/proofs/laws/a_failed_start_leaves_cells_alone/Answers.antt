use Rattle.driver_start.proofs.LawLemmas.{failures_leave_cells}
use Rattle.driver_start.proofs.laws.a_failed_start_leaves_cells_alone.Goals as goal

pub returns : goal.returns
returns c = failures_leave_cells
