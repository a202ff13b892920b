-- What contracts see of the records of an invocation under way.
use Rattle.std.specs.Prelude.{List}
use Rattle.mm_base.specs.declared.access.Denial.{Denial}
use Rattle.mm_base.specs.declared.cells.CellWrite.{CellWrite}

-- the denials and the cell writes so far, in the order in which they came
pub record RecordsState : Type 0 where
  pub denials : List Denial
  pub writes : List CellWrite
