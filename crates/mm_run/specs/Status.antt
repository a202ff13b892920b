-- Numbers and causes of statuses.
use Rattle.std.specs.Prelude.{ℕ, Bool, true, false}
use Rattle.mm_base.specs.declared.end.End.{End}
use Rattle.mm_base.specs.declared.end.End.TheVariants as end
use Rattle.mm_io.specs.declared.reading.ReadEnd.{ReadEnd}
use Rattle.mm_io.specs.declared.reading.ReadEnd.TheVariants as read_end
use Rattle.mm_text.specs.declared.text_end.TextFault.{TextFault}
use Rattle.volume_reader.specs.declared.volume_fault.VolumeFault.{VolumeFault}
use Rattle.mm_base.specs.declared.policy.PolicyFault.{PolicyFault}
use Rattle.mm_run.specs.declared.status.BadKind.TheVariants.{Volume, Policy}
use Rattle.mm_run.specs.declared.status.Status.{Status}
use Rattle.mm_run.specs.declared.status.Status.TheVariants.{Done, Usage, BadVolume, BadText, ReadFault, WriteFault, TooLong}
use Rattle.mm_run.specs.declared.status.Status.TheVariants.{NoMemory}
use Rattle.mm_run.specs.declared.status.Which.{Which}

-- the exit status
abbrev pub number_of_status : Status → ℕ
number_of_status Done = 0
number_of_status Usage = 1
number_of_status (BadVolume at kind) = 2
number_of_status (BadText line kind) = 3
number_of_status (ReadFault which) = 4
number_of_status WriteFault = 5
number_of_status (TooLong which) = 6
number_of_status (NoMemory refused) = 7

-- the status of a source that was not read whole
abbrev pub status_of_read : ReadEnd → Which → Status
status_of_read read_end.Failed which = ReadFault which
status_of_read read_end.TooLong which = TooLong which
status_of_read (read_end.NoMemory refused) which = NoMemory refused

-- the status of a text that was not read
abbrev pub status_of_text : End TextFault → Status
status_of_text (end.Fault fault) = BadText fault.line fault.kind
status_of_text (end.NoMemory refused) = NoMemory refused

-- the status of a volume that was not read
abbrev pub status_of_volume : End VolumeFault → Status
status_of_volume (end.Fault fault) = BadVolume fault.at (Volume fault.kind)
status_of_volume (end.NoMemory refused) = NoMemory refused

-- the status of a policy that was not read
abbrev pub status_of_policy : End PolicyFault → Status
status_of_policy (end.Fault fault) = BadVolume fault.at (Policy fault.kind)
status_of_policy (end.NoMemory refused) = NoMemory refused

-- whether the report was written, or a front of it
abbrev pub writes : Status → Bool
writes Done = true
writes Usage = false
writes (BadVolume at kind) = false
writes (BadText line kind) = false
writes (ReadFault which) = false
writes WriteFault = true
writes (TooLong which) = false
writes (NoMemory refused) = false

-- whether a status says that no world was driven: each but the two that write, and out of memory
abbrev pub has_no_world : Status → Bool
has_no_world Done = false
has_no_world Usage = true
has_no_world (BadVolume at kind) = true
has_no_world (BadText line kind) = true
has_no_world (ReadFault which) = true
has_no_world WriteFault = false
has_no_world (TooLong which) = true
has_no_world (NoMemory refused) = false
