-- A piece: what the processor of a lane does for one ring, from its load of the length word to its store of the status.
--
-- The buffer is the one that EFI_MM_COMMUNICATION_PROTOCOL hands over, with EFI_MM_COMMUNICATE_HEADER in front (PI 1.8,
-- volume 4). That it is exchanged by words of 64 bits, and in which order, is this project's own.
--
-- A lane has a length word (word 0), a status word (word 1) and data words from word 2 on; data word j holds the bytes
-- 8*j to 8*j + 7 of the communicate buffer, the lowest byte first. Its capacity is 8 bytes a data word.
use Rattle.std.specs.Prelude.{ℕ, zero, suc, ◌+◌, ◌*◌, if◌then◌else◌, ◌&&◌, nat_le, List, [], ◌∷◌, ◌++◌, length, take, drop, map, Option, Some, None, unwrap_or, slice_get, option_map}
use Rattle.mm_base.specs.Numbers.{words_for, words_of_bytes, bytes_of_words}
use Rattle.mm_base.specs.Receipt.{receipt_of}
use Rattle.mm_base.specs.declared.cells.Saved.{Saved}
use Rattle.mm_base.specs.declared.entry.Outcome.{Outcome}
use Rattle.mm_base.specs.declared.entry.Request.{Request}
use Rattle.mm_base.specs.declared.receipt.Receipt.{Receipt}
use Rattle.comm_core.specs.declared.action.Action.{Action}
use Rattle.comm_core.specs.declared.action.Action.TheVariants.{Rest, Load, Turn, Store}
use Rattle.comm_core.specs.declared.trace.Trace.{Trace}
use Rattle.comm_core.specs.declared.trace.Trace.TheVariants.{Loaded, Stored, Poked, Turned}

-- How many data words a request of this length has: those that hold its bytes, where the length is at least a header's
-- (24 bytes) and at most the capacity; else none.
abbrev pub needed : ℕ → ℕ → ℕ
needed words length = if nat_le 24 length && nat_le length (8 * words) then words_for length else 0

-- loads of n words from this one on, rising
abbrev pub loads_from : ℕ → ℕ → List Action
loads_from word zero = []
loads_from word (suc n) = Load word ∷ loads_from (word + 1) n

-- a store, as the word and the value
abbrev pub store : ℕ × ℕ → Action
store to = Store to.0 to.1

-- these values for the words from this one on, rising
abbrev pub from_word : ℕ → List ℕ → List (ℕ × ℕ)
from_word word [] = []
from_word word (value ∷ values) = (word, value) ∷ from_word (word + 1) values

-- The stores that answer: where handlers ran, the reply's words (the last one filled with zeros) and then the reply's
-- length; and in every case the status, last.
abbrev pub answer : Receipt → List (ℕ × ℕ)
answer receipt =
    (if receipt.dispatched then from_word 2 (words_of_bytes receipt.bytes) ++ (0, length receipt.bytes) ∷ [] else [])
    ++ (1, receipt.status) ∷ []

-- the stores that are known by the receipt of the turn, if there was one
abbrev pub answer_if : Option Receipt → List (ℕ × ℕ)
answer_if None = []
answer_if (Some receipt) = answer receipt

-- A whole piece, in order: one load of the length word, which gives the length; one load of each data word that the
-- request needs; one turn; and the stores of its receipt.
abbrev pub whole : ℕ → ℕ → Option Receipt → List Action
whole words length receipt = Load 0 ∷ (loads_from 2 (needed words length) ++ Turn ∷ map store (answer_if receipt))

-- the values that the loads of a piece gave, in order
abbrev pub loaded : List Trace → List ℕ
loaded [] = []
loaded (Loaded lane word value ∷ piece) = value ∷ loaded piece
loaded (Stored lane word value ∷ piece) = loaded piece
loaded (Poked lane word value ∷ piece) = loaded piece
loaded (Turned lane position ∷ piece) = loaded piece

-- the value of the length word as it was loaded, or 0
abbrev pub length_in : List Trace → ℕ
length_in piece = unwrap_or (slice_get (loaded piece) 0) 0

-- the position of a piece's turn, if it came
abbrev pub turn_in : List Trace → Option ℕ
turn_in [] = None
turn_in (Loaded lane word value ∷ piece) = turn_in piece
turn_in (Stored lane word value ∷ piece) = turn_in piece
turn_in (Poked lane word value ∷ piece) = turn_in piece
turn_in (Turned lane position ∷ piece) = Some position

-- the receipt of a piece's turn, where these are the outcomes so far
abbrev pub receipt_at : List Outcome → Option ℕ → Option Receipt
receipt_at outcomes None = None
receipt_at outcomes (Some position) = option_map (receipt_of position) (slice_get outcomes position)

-- The next action: entry `length piece` of a whole piece.
abbrev pub next_in : ℕ → List Outcome → List Trace → Action
next_in words outcomes piece =
    unwrap_or (slice_get (whole words (length_in piece) (receipt_at outcomes (turn_in piece))) (length piece)) Rest

-- The request of a piece: the length as it was loaded; that number of bytes, the first of the data words as they were
-- loaded; and the registers that were saved at its ring.
abbrev pub request_in : ℕ → Saved → List Trace → Request
request_in lane saved piece = record {
  lane = lane;
  length = length_in piece;
  bytes = take (length_in piece) (bytes_of_words (drop 1 (loaded piece)));
  saved = saved;
}
