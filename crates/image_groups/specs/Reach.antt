-- What an image may reach: the units that it may read, write or execute.
use Rattle.std.specs.Prelude.{ℕ, Bool, ◌||◌}
use Rattle.mm_base.specs.declared.access.Kind.{Kind}
use Rattle.mm_base.specs.declared.access.Kind.TheVariants.{Saved}
use Rattle.mm_base.specs.declared.access.Right.{Right}
use Rattle.mm_base.specs.declared.access.Right.TheVariants.{Read, Write, Execute}
use Rattle.secure_policy.specs.Laws.{passes}
use Rattle.supervisor_calls.specs.Accesses.{decided}
use Rattle.supervisor_calls.specs.Tables.{Site}

-- A unit is within an image's reach for a right where an access to this unit alone passes. No rule about memory, ports or model-specific
-- registers asks what access was trapped, so none is named here.
unfoldable pub reach : Site → ℕ → Kind → ℕ → Right → Bool
reach site image kind unit right = passes (decided site image kind unit 1 right 0)

-- whether it is for any right
abbrev pub is_touched : Site → ℕ → Kind → ℕ → Bool
is_touched site image kind unit =
    reach site image kind unit Read || (reach site image kind unit Write || reach site image kind unit Execute)

-- whether an image may read a saved register, where the processor was trapped at this access
unfoldable pub is_register_read : Site → ℕ → ℕ → ℕ → Bool
is_register_read site image trapped register = passes (decided site image Saved register 1 Read trapped)
