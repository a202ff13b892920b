-- A handler that is code of an image. Its image's communicate page, which is this project's own, is filled with the message; its code runs
-- under the policy's fuel over its image's domain; and what it left in the page is handed back. A root handler is given a page of zeros and
-- no buffer, and hands nothing back.
use Rattle.std.specs.Prelude.{ℕ, ◌+◌, ◌-◌, min, List, [], ◌∷◌, ◌++◌, length, take, drop, Option, Some, None}
use Rattle.domain_runs.specs.Runs.{ending}
use Rattle.ebc_machine.specs.Invocation.{entered}
use Rattle.mm_base.specs.Frames.{zeros}
use Rattle.mm_base.specs.Numbers.{bytes_of_word, number_in, overwritten}
use Rattle.mm_base.specs.Regions.{communicate_page_of, stack_of}
use Rattle.mm_base.specs.declared.cells.Saved.{Saved}
use Rattle.mm_base.specs.declared.guid.Guid.{Guid}
use Rattle.mm_base.specs.declared.handler.Handler.{Handler}
use Rattle.mm_base.specs.declared.invocation.Ended.{Ended}
use Rattle.mm_base.specs.declared.region.Region.{Region}
use Rattle.mm_core.specs.CoreState.{Site, tables_of}
use Rattle.mm_core.specs.Message.{Invoked, Message}
use Rattle.supervisor_calls.specs.Domains.{DomainState}
use Rattle.supervisor_calls.specs.Services.{domain_meaning}
use Rattle.supervisor_calls.specs.Tables.{Live}

-- where the communicate page of a region stands in memory
abbrev pub page_place : Region → ℕ
page_place region = (communicate_page_of region).base - 0x80000000

-- how many bytes of a message the page has place for, after the 8 bytes of its size
abbrev pub page_room : ℕ
page_room = 4088

-- Memory with a message in the page: zeros, over them the size in 8 bytes, and after it the buffer's bytes for which there is place.
abbrev pub with_message : Region → Message → List ℕ → List ℕ
with_message region message memory =
    let page = page_place region in
    let blank = overwritten memory page (zeros 4096) in
    overwritten (overwritten blank page (bytes_of_word message.size)) (page + 8) (take page_room message.buffer)

-- The message that the page says after a run: the size, and over the buffer that was given as many bytes of the page. What was written
-- past them isn't handed on.
abbrev pub message_in : Region → Message → List ℕ → Message
message_in region given memory =
    let page = page_place region in
    let n = min page_room (length given.buffer) in
    record { buffer = take n (drop (page + 8) memory) ++ drop n given.buffer; size = number_in memory page 8 }

-- what a handler of a GUID hands back, and a root handler, which leaves no message as it was given none
abbrev pub handed_back : Option Guid → Region → Message → List ℕ → Message
handed_back None region given memory = given
handed_back (Some guid) region given memory = message_in region given memory

-- the addresses of the buffer and of the size cell, which a root handler isn't told
abbrev pub addresses : Option Guid → Region → List ℕ
addresses None region = 0 ∷ 0 ∷ []
addresses (Some guid) region =
    let page = (communicate_page_of region).base in
    (page + 8) ∷ page ∷ []

-- the domain in which the code of an image begins: its page is filled, the entry's registers were saved, and there is no record
abbrev pub opening_domain : Site → Saved → ℕ → Region → Message → Live → DomainState
opening_domain site saved image region message live = record {
  tables = tables_of site (record live { memory = with_message region message live.memory });
  image = image;
  saved = saved;
  records = record { denials = []; writes = [] };
}

-- The code at an address runs over the domain of its image, with the handler's number + 1, 0 and the addresses as its arguments.
unfoldable pub code_run : Site → Saved → Handler → ℕ → ℕ → Region → Message → Live → Ended × DomainState
code_run site saved handler image address region message live =
    let stack = stack_of region in
    let arguments = (handler.number + 1) ∷ 0 ∷ addresses handler.guid region in
    ending domain_meaning site.supervised.policy.fuel
    (entered domain_meaning (stack.base + stack.length) address arguments (opening_domain site saved image region message live))

-- What a run leaves: how it ended, however it was stopped, with its records; what it hands back; and all that it did.
abbrev pub left_by : Handler → Region → Message → Ended × DomainState → Invoked
left_by handler region message ran = record {
  invocation = record {
    handler = handler.number;
    ended = ran.0;
    denials = ran.1.records.denials;
    writes = ran.1.records.writes;
  };
  message = handed_back handler.guid region message ran.1.tables.live.memory;
  live = ran.1.tables.live;
}
