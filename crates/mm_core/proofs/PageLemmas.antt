-- The communicate page: what is written to it, and what is copied back.
use Rattle.std.proofs.Common.{◌≡◌, ℕ, ◌+◌, ◌-◌, ◌≤◌, ◌<◌, min, List, ◌++◌, length, take, drop, replicate, sym, ap, ◌∙◌, arith, append_assoc, length-append, zero-add}
use Rattle.std.specs.List.{All}
use Rattle.std.proofs.Math.Seq.{take-add, take-append_seam, drop-append_seam}
use Rattle.std.proofs.lemmas.List.{drop-drop, length-drop, length-take, take-append-drop, take_min}
use Rattle.std.proofs.lemmas.List.Elements.{All-take, All-drop}
use Rattle.mm_base.proofs.NumberLemmas.{bytes_of_word-filled}
use Rattle.mm_base.specs.Frames.{zeros}
use Rattle.mm_base.specs.Numbers.{bytes_of_word, number_in, number_of, overwritten}
use Rattle.mm_base.specs.Room.{RoomState}
use Rattle.mm_base.specs.declared.region.Region.{Region}
use Rattle.mm_memory.proofs.PageLemmas.{overwritten-append_right}
use Rattle.mm_core.specs.BufferInside.{BufferState}
use Rattle.mm_core.specs.CodeInside.{refreshed}
use Rattle.mm_core.specs.CodeRun.{page_place, page_room}
use Rattle.mm_core.specs.Message.{Message}
use Rattle.supervisor_calls.specs.Loading.{with_memory}
use Rattle.supervisor_calls.specs.Tables.{TablesState}

-- ---- a piece over the message of a buffer

module _ (items piece : List ℕ) (front at : ℕ) (fits : front ≤ length items) where
  length-front : length (take front items) ≡ front
  length-front = omega (arith, length-take front items)

  rest_over : List ℕ
  rest_over = overwritten (drop front items) at piece

  over_is : overwritten items (front + at) piece ≡ take front items ++ overwritten (drop front items) at piece
  over_is =
      ap (λ ys. overwritten ys (front + at) piece) (sym (take-append-drop front items))
      ∙ ap (λ n. overwritten (take front items ++ drop front items) (n + at) piece) (sym length-front)
      ∙ overwritten-append_right (take front items) (drop front items) piece at

  front_stays : take front (overwritten items (front + at) piece) ≡ take front items
  front_stays =
      let over : List ℕ = overwritten (drop front items) at piece in
      ap (take front) over_is ∙ ap (λ n. take n (take front items ++ over)) (sym length-front) ∙ take-append_seam (take front items) over

  message_is : drop front (overwritten items (front + at) piece) ≡ overwritten (drop front items) at piece
  message_is =
      let over : List ℕ = overwritten (drop front items) at piece in
      ap (drop front) over_is ∙ ap (λ n. drop n (take front items ++ over)) (sym length-front) ∙ drop-append_seam (take front items) over

  pub put_is : (after : RoomState ℕ) (room size start : ℕ) → start ≡ front + at
      → after ≡ record { items = overwritten items start piece; room = room }
      → (let there : BufferState = record { front = take front after.items; message = record { buffer = drop front after.items; size = size }; room = after.room } in
      there ≡ record { front = take front items; message = record { buffer = overwritten (drop front items) at piece; size = size }; room = room })
  put_is after room size start begins is =
      let here : after ≡ record { items = overwritten items (front + at) piece; room = room } =
      is ∙ ap (λ n. record { items = overwritten items n piece; room = room }) begins in
      ap (λ (r : RoomState ℕ). record { front = take front r.items; message = record { buffer = drop front r.items; size = size }; room = r.room }) here
      ∙ (λ i. record { front = front_stays i; message = record { buffer = message_is i; size = size }; room = room })

-- ---- the page, filled

module _ (region : Region) (message : Message) (tables blank sized filled : TablesState) (page : ℕ) (size front : List ℕ) where
  pub filled_is : blank ≡ with_memory (overwritten tables.live.memory page (zeros 4096)) tables
      → sized ≡ with_memory (overwritten blank.live.memory page size) blank
      → filled ≡ with_memory (overwritten sized.live.memory (page + 8) front) sized
      → page ≡ page_place region → size ≡ bytes_of_word message.size → front ≡ take page_room message.buffer
      → filled ≡ refreshed region message tables
  filled_is b s f page_is size_is front_is =
      f
      ∙ ap (λ (t : TablesState). with_memory (overwritten t.live.memory (page + 8) front) t)
      (s ∙ ap (λ (t : TablesState). with_memory (overwritten t.live.memory page size) t) b)
      ∙ (λ i.
      with_memory
      (overwritten (overwritten (overwritten tables.live.memory (page_is i) (zeros 4096)) (page_is i) (size_is i)) (page_is i + 8) (front_is i))
      tables)

-- as many bytes as the page has place for
pub front_is : (bytes front : List ℕ) (n : ℕ) → n ≡ min page_room (length bytes) → front ≡ take n bytes → front ≡ take page_room bytes
front_is bytes front n is f = f ∙ ap (λ k. take k bytes) is ∙ take_min page_room bytes

-- ---- what is copied back

-- the message of which this many bytes were copied from memory
abbrev pub copied : List ℕ → Message → ℕ → Message
copied memory given at = record given { buffer = take at memory ++ drop at given.buffer }

module _ (memory piece : List ℕ) (given : Message) (at n : ℕ) (whole : at ≤ length memory) where
  -- one more piece
  pub copied_more : piece ≡ take n (drop at memory) → length piece ≡ n
      → overwritten (copied memory given at).buffer at piece ≡ (copied memory given (at + n)).buffer
  copied_more is long =
      let front : List ℕ = take at memory in
      let rest : List ℕ = drop at given.buffer in
      let there : at ≡ length front + 0 = omega (arith, length-take at memory) in
      ap (λ k. overwritten (front ++ rest) k piece) there
      ∙ overwritten-append_right front rest piece 0
      ∙ sym (append_assoc front piece (drop (0 + length piece) rest))
      ∙ (λ i. (front ++ is i) ++ drop (0 + long i) rest)
      ∙ ap (λ k. (front ++ take n (drop at memory)) ++ drop k rest) (zero-add n)
      ∙ ap (λ ys. ys ++ drop n rest) (sym (take-add at n memory))
      ∙ ap (λ ys. take (at + n) memory ++ ys) (drop-drop n at given.buffer)

-- a piece of memory, by the number that it spells
pub piece_is : (memory piece bytes : List ℕ) (place at n number : ℕ) → All (λ byte. byte < 256) memory → n ≤ 8
    → place + at + n ≤ length memory → number ≡ number_in memory (place + at) n → bytes ≡ bytes_of_word number → piece ≡ take n bytes
    → piece ≡ take n (drop at (drop place memory))
piece_is memory piece bytes place at n number small short within number_is bytes_are is =
    let there : List ℕ = take n (drop (place + at) memory) in
    let long : length there ≡ n = omega (arith, length-take n (drop (place + at) memory), length-drop (place + at) memory) in
    let filled : bytes_of_word (number_of there) ≡ there ++ replicate (8 - length there) 0 =
    bytes_of_word-filled there (omega (arith, long))
    (All-take (λ byte. byte < 256) n (drop (place + at) memory) (All-drop (λ byte. byte < 256) (place + at) memory small)) in
    is ∙ ap (take n) (bytes_are ∙ ap bytes_of_word number_is ∙ filled)
    ∙ ap (λ k. take k (there ++ replicate (8 - length there) 0)) (sym long) ∙ take-append_seam there (replicate (8 - length there) 0)
    ∙ ap (take n) (sym (drop-drop at place memory))

-- where all are copied, from a place in memory on
pub copied_length : (memory : List ℕ) (given : Message) (at : ℕ) → at ≤ length memory → at ≤ length given.buffer
    → length (copied memory given at).buffer ≡ length given.buffer
copied_length memory given at some more =
    omega (arith, length-append (take at memory) (drop at given.buffer), length-take at memory, length-drop at given.buffer)
