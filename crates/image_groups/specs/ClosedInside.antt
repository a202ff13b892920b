-- No public clause cites this file.
-- Whether a group is closed, by tests: the handlers are compared two by two, and units are looked at where the ends of ranges are.
use Rattle.std.specs.Prelude.{ℕ, Bool, true, false, ◌&&◌, ◌||◌, not, List, Option, Some, None}
use Rattle.std.specs.List.{list_all}
use Rattle.mm_base.specs.Guid.{same_guid}
use Rattle.mm_base.specs.declared.access.Kind.{Kind}
use Rattle.mm_base.specs.declared.access.Kind.TheVariants.{Memory, Io, Msr}
use Rattle.mm_base.specs.declared.access.Right.TheVariants.{Write}
use Rattle.mm_base.specs.declared.guid.Guid.{Guid}
use Rattle.mm_base.specs.declared.handler.Handler.{Handler}
use Rattle.supervisor_calls.specs.Tables.{Site}
use Rattle.image_groups.specs.Ends.{ends_of}
use Rattle.image_groups.specs.Groups.{Group, granted, is_handler_of, some_image}
use Rattle.image_groups.specs.Reach.{reach}

-- whether some image outside a group may write a unit
abbrev pub is_written_outside : Group → Site → Kind → ℕ → Bool
is_written_outside group site kind unit = some_image site (λ image. not (group image) && reach site image kind unit Write)

-- whether a unit is not both written outside and granted to the group
abbrev pub is_apart_at : Group → Site → Kind → ℕ → Bool
is_apart_at group site kind unit = not (is_written_outside group site kind unit && granted group site kind unit)

-- at each of the ends
abbrev pub is_apart : Group → Site → Kind → Bool
is_apart group site kind = list_all (is_apart_at group site kind) (ends_of kind site)

-- whether two handlers were registered for one GUID
abbrev pub have_one_guid : Option Guid → Option Guid → Bool
have_one_guid None other = false
have_one_guid (Some guid) None = false
have_one_guid (Some guid) (Some other) = same_guid guid other

-- whether both are true or both are false
abbrev pub are_same : Bool → Bool → Bool
are_same true other = other
are_same false other = not other

-- whether two handlers are both the group's or both not, where they were registered for one GUID
abbrev pub is_alike_with : Group → Handler → Handler → Bool
is_alike_with group handler other =
    not (have_one_guid handler.guid other.guid) || are_same (is_handler_of group handler) (is_handler_of group other)

abbrev pub are_alike : Group → List Handler → Bool
are_alike group handlers = list_all (λ handler. list_all (is_alike_with group handler) handlers) handlers

abbrev pub is_closed_by : Group → Site → List Handler → Bool
is_closed_by group site handlers =
    are_alike group handlers && (is_apart group site Memory && (is_apart group site Io && is_apart group site Msr))
