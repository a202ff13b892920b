-- Registered handlers: whose they are, and the chains that they form.
use Rattle.std.specs.Prelude.{ℕ, Bool, true, false, ◌==◌, not, List, filter, find, Option}
use Rattle.std.specs.Option.{option_eq}
use Rattle.mm_base.specs.Guid.{same_guid}
use Rattle.mm_base.specs.declared.guid.Guid.{Guid}
use Rattle.mm_base.specs.declared.handler.Handler.{Handler}
use Rattle.mm_base.specs.declared.handler.HandlerBody.{HandlerBody}
use Rattle.mm_base.specs.declared.handler.HandlerBody.TheVariants.{Version, Stub, Code}

-- whether it is byte code of this image
abbrev pub is_code_of : ℕ → HandlerBody → Bool
is_code_of image Version = false
is_code_of image (Stub status) = false
is_code_of image (Code owner address) = owner == image

-- whether it is built into the core, so that no image owns it
abbrev pub is_built_in : HandlerBody → Bool
is_built_in Version = true
is_built_in (Stub status) = true
is_built_in (Code owner address) = false

-- whether a handler is this image's own
abbrev pub is_of : ℕ → Handler → Bool
is_of image handler = is_code_of image handler.body

-- the handlers that an image has now
abbrev pub owned_by : ℕ → List Handler → List Handler
owned_by image handlers = filter (is_of image) handlers

-- the handlers that are built in
abbrev pub built_ins : List Handler → List Handler
built_ins handlers = filter (λ handler. is_built_in handler.body) handlers

-- The chain of a GUID: the handlers that were registered for it, in order of registration, which is the order in which
-- MmiManage calls them. Those that were registered without a GUID are the root chain.
abbrev pub chain_of : Option Guid → List Handler → List Handler
chain_of guid handlers = filter (λ handler. option_eq same_guid handler.guid guid) handlers

-- the handler of this number, if there is one
abbrev pub handler_at : ℕ → List Handler → Option Handler
handler_at number handlers = find (λ handler. handler.number == number) handlers

-- the handlers but for that of this number
abbrev pub without_number : ℕ → List Handler → List Handler
without_number number handlers = filter (λ handler. not (handler.number == number)) handlers

-- the handlers but for those of this image
abbrev pub without_image : ℕ → List Handler → List Handler
without_image image handlers = filter (λ handler. not (is_of image handler)) handlers
