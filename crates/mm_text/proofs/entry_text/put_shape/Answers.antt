use Rattle.mm_text.specs.Report.{shape_line}
use Rattle.mm_text.proofs.entry_text.put_shape.Goals as goal

pub returns-in-BadLength : goal.returns-in-BadLength
unfolding shape_line
returns-in-BadLength c = rw c.in-BadLength.is c.put.ensures

pub returns-in-BadHeader : goal.returns-in-BadHeader
unfolding shape_line
returns-in-BadHeader c = rw c.in-BadHeader.is c.put-in-BadHeader.ensures

pub returns-in-NoHandler : goal.returns-in-NoHandler
unfolding shape_line
returns-in-NoHandler c = rw c.in-NoHandler.is c.put_guid_line.ensures

pub returns-in-Dispatched : goal.returns-in-Dispatched
unfolding shape_line
returns-in-Dispatched c = rw c.in-Dispatched.is c.put_guid_line-in-Dispatched.ensures
