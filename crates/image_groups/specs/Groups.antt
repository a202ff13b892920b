-- Groups of images, what is granted to them, and which of them are closed. This is this project's own.
use Rattle.std.specs.Prelude.{◌≡◌, ◌≢◌, ◌⊎◌, ℕ, ◌<◌, Bool, true, false, ◌&&◌, ◌==◌, List, length, All, Some}
use Rattle.std.specs.List.{list_any, range_with_len}
use Rattle.mm_base.specs.declared.access.Kind.{Kind}
use Rattle.mm_base.specs.declared.access.Kind.TheVariants.{Saved}
use Rattle.mm_base.specs.declared.access.Right.TheVariants.{Write}
use Rattle.mm_base.specs.declared.guid.Guid.{Guid}
use Rattle.mm_base.specs.declared.handler.Handler.{Handler}
use Rattle.mm_base.specs.declared.handler.HandlerBody.{HandlerBody}
use Rattle.mm_base.specs.declared.handler.HandlerBody.TheVariants.{Version, Stub, Code}
use Rattle.mmi_registry.specs.Handlers.{chain_of}
use Rattle.supervisor_calls.specs.Tables.{Site}
use Rattle.image_groups.specs.Reach.{reach, is_touched, is_register_read}

-- a group: whether the image with a number is in it
abbrev pub Group : Type 0
Group = ℕ → Bool

-- the group of the images with these numbers, and that of one image alone
abbrev pub group_of : List ℕ → Group
group_of numbers image = list_any (λ number. number == image) numbers

abbrev pub alone : ℕ → Group
alone number image = number == image

-- whether some image that is there passes a test
abbrev pub some_image : Site → (ℕ → Bool) → Bool
some_image site test = list_any test (range_with_len 0 (length site.images))

-- A unit is granted to a group where some image of it may read, write or execute it.
unfoldable pub granted : Group → Site → Kind → ℕ → Bool
granted group site kind unit = some_image site (λ image. group image && is_touched site image kind unit)

-- A saved register is granted to a group, at this trapped access, where some image of it may read it.
unfoldable pub is_register_granted : Group → Site → ℕ → ℕ → Bool
is_register_granted group site trapped register =
    some_image site (λ image. group image && is_register_read site image trapped register)

-- whether a handler is code of an image of the group; one that is built into the core is of no group
abbrev pub is_body_of : Group → HandlerBody → Bool
is_body_of group Version = false
is_body_of group (Stub status) = false
is_body_of group (Code image address) = group image

abbrev pub is_handler_of : Group → Handler → Bool
is_handler_of group handler = is_body_of group handler.body

-- the handlers of a GUID are all code of the group's images, or none is
abbrev pub AreAlike : Group → List Handler → Guid → Type 0
AreAlike group handlers guid =
    All (λ handler. is_handler_of group handler ≡ true) (chain_of (Some guid) handlers)
    ⊎ All (λ handler. is_handler_of group handler ≡ false) (chain_of (Some guid) handlers)

-- A group is closed where no GUID is shared with a handler that isn't the group's, and where no byte of memory, no port and no
-- model-specific register that an image outside may write is granted to the group. Images are those that are there: a number that no
-- image has is nobody's. Saved registers are written by nobody, and don't count. What the group writes and others may read isn't limited.
pub record IsClosed (group : Group) (site : Site) (handlers : List Handler) : Type 0 where
  pub alike : (guid : Guid) → AreAlike group handlers guid
  pub apart : (image : ℕ) (kind : Kind) (unit : ℕ) → image < length site.images → kind ≢ Saved → group image ≡ false
      → reach site image kind unit Write ≡ true → granted group site kind unit ≡ false
