-- What one handler makes of a message. How a handler runs depends on its body alone.
use Rattle.std.specs.Prelude.{ℕ, if◌then◌else◌, nat_lt, [], ◌++◌, length, drop, Option, Some, None, slice_get}
use Rattle.image_table.specs.declared.placed_image.PlacedImage.{PlacedImage}
use Rattle.mm_base.specs.Numbers.{bytes_of_word}
use Rattle.mm_base.specs.Statuses.{success, invalid_parameter, unsupported}
use Rattle.mm_base.specs.declared.cells.Saved.{Saved}
use Rattle.mm_base.specs.declared.handler.Handler.{Handler}
use Rattle.mm_base.specs.declared.handler.HandlerBody.{HandlerBody}
use Rattle.mm_base.specs.declared.handler.HandlerBody.TheVariants.{Version, Stub, Code}
use Rattle.mm_base.specs.declared.invocation.Invocation.{Invocation}
use Rattle.mm_base.specs.declared.invocation.Ended.TheVariants.{Returned}
use Rattle.mm_core.specs.CodeRun.{code_run, left_by}
use Rattle.mm_core.specs.CoreState.{Site}
use Rattle.mm_core.specs.Message.{Invoked, Message}
use Rattle.mm_core.specs.Version.{version_number}
use Rattle.supervisor_calls.specs.Tables.{Live}

-- the status that a built-in handler returns, and what it leaves of the message
pub record Answer : Type 0 where
  pub status : ℕ
  pub message : Message

-- The version handler (this project's own) puts its number into the first 8 bytes, the lowest byte first, and makes the size 8; or it
-- returns INVALID_PARAMETER where there are fewer bytes.
abbrev pub version_answer : Message → Answer
version_answer message =
    if nat_lt (length message.buffer) 8
    then record { status = invalid_parameter; message = message }
    else record {
      status = success;
      message = record { buffer = bytes_of_word version_number ++ drop 8 message.buffer; size = 8 };
    }

-- the invocation of a handler that returned this status and made no record
abbrev pub returned : Handler → ℕ → Invocation
returned handler status = record { handler = handler.number; ended = Returned status; denials = []; writes = [] }

-- what a handler leaves that gave this answer and touched nothing but the message
abbrev pub answered : Handler → Live → Answer → Invoked
answered handler live answer =
    record { invocation = returned handler answer.status; message = answer.message; live = live }

-- What code of an image leaves. Where there is no such image nothing runs: it leaves the message, and counts as UNSUPPORTED.
abbrev pub code_invoked : Site → Saved → Handler → ℕ → ℕ → Option PlacedImage → Message → Live → Invoked
code_invoked site saved handler image address None message live =
    answered handler live (record { status = unsupported; message = message })
code_invoked site saved handler image address (Some placed) message live =
    left_by handler placed.region message (code_run site saved handler image address placed.region message live)

-- What a handler of this body leaves: a stub returns its status and leaves the message.
abbrev pub by_body : Site → Saved → Handler → HandlerBody → Message → Live → Invoked
by_body site saved handler Version message live = answered handler live (version_answer message)
by_body site saved handler (Stub status) message live = answered handler live (record { status = status; message = message })
by_body site saved handler (Code image address) message live =
    code_invoked site saved handler image address (slice_get site.supervised.images image) message live

-- Invoking a handler, with the saved registers of the entry.
unfoldable pub invoked : Site → Saved → Handler → Message → Live → Invoked
invoked site saved handler message live = by_body site saved handler handler.body message live
