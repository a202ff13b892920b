-- What is left of a room of bytes, of which the first are the reply.
use Rattle.std.proofs.Common.{◌≡◌, ◌+◌, ◌-◌, length-drop, ℕ, min, List, [], ◌++◌, length, take, drop, sym, ap, ◌∙◌, append-nil}
use Rattle.std.proofs.Math.Seq.{take-add, take-length, drop-length}
use Rattle.std.proofs.lemmas.List.{take_min, take-append-drop}
use Rattle.mm_base.specs.Room.{RoomState}
use Rattle.mm_core.specs.BufferInside.{BufferState}
use Rattle.mm_core.specs.Message.{no_message}

-- all bytes are the reply, where none are after it
pub all_reply : (front : ℕ) (items : List ℕ) → drop front items ≡ [] → items ≡ take front items
all_reply front items none =
    sym (take-append-drop front items) ∙ ap (λ ys. take front items ++ ys) none ∙ append-nil (take front items)

-- the buffer of these bytes, of which the first `front` are the reply
abbrev buffer_of : List ℕ → ℕ → ℕ → BufferState
buffer_of items front room =
    record { front = take front items; message = record { buffer = drop front items; size = 0 }; room = room }

-- the buffer without a message
abbrev pub reply_alone : List ℕ → ℕ → BufferState
reply_alone reply room = record { front = reply; message = no_message; room = room }

-- the whole rest is the reply: no message is left
all_front : (items : List ℕ) (room len : ℕ) → len ≡ length items → buffer_of items len room ≡ reply_alone items room
all_front items room len e =
    ap (λ (n : ℕ). buffer_of items n room) e
    ∙ ap (λ (ys : List ℕ). record { front = ys; message = record { buffer = drop (length items) items; size = 0 }; room = room })
    (take-length items)
    ∙ ap (λ (ys : List ℕ). record { front = items; message = record { buffer = ys; size = 0 }; room = room }) (drop-length items)

module _ (before : RoomState ℕ) (front n kept : ℕ) where
  -- the reply and the first n bytes after it, or as many as there are
  kept_of : kept ≡ min n (length (drop front before.items))
      → take (front + kept) before.items ≡ take front before.items ++ take n (drop front before.items)
  kept_of e =
      take-add front kept before.items
      ∙ ap (λ k. take front before.items ++ take k (drop front before.items)) e
      ∙ ap (λ ys. take front before.items ++ ys) (take_min n (drop front before.items))

  -- a room that is cut after the reply and the first n bytes after it
  pub closed : (after : RoomState ℕ) (len : ℕ) → kept ≡ min n (length before.items - front)
      → after ≡ record { items = take (front + kept) before.items; room = before.room } → len ≡ length after.items
      → buffer_of after.items len after.room ≡ reply_alone (take front before.items ++ take n (drop front before.items)) before.room
  closed after len k a l =
      let most : kept ≡ min n (length (drop front before.items)) = k ∙ ap (min n) (sym (length-drop front before.items)) in
      let items : after.items ≡ take front before.items ++ take n (drop front before.items) = ap (λ r. r.items) a ∙ kept_of most in
      all_front after.items after.room len l
      ∙ ap (λ (ys : List ℕ). reply_alone ys after.room) items
      ∙ ap (λ (m : ℕ). reply_alone (take front before.items ++ take n (drop front before.items)) m) (ap (λ r. r.room) a)
