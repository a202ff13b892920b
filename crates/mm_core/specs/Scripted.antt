-- The core of a script: the version handler as number 0, the script's stubs from 1 on, and its opening cells. It has no
-- images.
use Rattle.std.specs.Prelude.{◌≡◌, ℕ, ◌+◌, Bool, true, false, List, [], ◌∷◌, Some}
use Rattle.std.specs.List.{All}
use Rattle.mm_base.specs.declared.cells.CellWrite.{CellWrite}
use Rattle.mm_base.specs.declared.handler.Handler.{Handler}
use Rattle.mm_base.specs.declared.handler.HandlerBody.{HandlerBody}
use Rattle.mm_base.specs.declared.handler.HandlerBody.TheVariants.{Version, Stub, Code}
use Rattle.mm_core.specs.CoreState.{CoreState, without_images}
use Rattle.mm_core.specs.Version.{version_guid}
use Rattle.platform_model.specs.Opening.{opening_state}

-- whether a body is a stub's
abbrev pub is_stub : HandlerBody → Bool
is_stub Version = false
is_stub (Stub status) = true
is_stub (Code image address) = false

-- each of these handlers is a stub
abbrev pub AreStubs : List Handler → Type 0
AreStubs handlers = All (λ handler. is_stub handler.body ≡ true) handlers

-- the handlers, numbered from this number on
abbrev pub numbered : ℕ → List Handler → List Handler
numbered number [] = []
numbered number (handler ∷ handlers) =
    record { number = number; guid = handler.guid; body = handler.body } ∷ numbered (number + 1) handlers

-- the version handler
abbrev pub version_handler : Handler
version_handler = record { number = 0; guid = Some version_guid; body = Version }

-- the core of a script with these opening cells and stubs
abbrev pub core_of_script : List CellWrite → List Handler → CoreState
core_of_script cells stubs = without_images (version_handler ∷ numbered 1 stubs) (opening_state cells)
