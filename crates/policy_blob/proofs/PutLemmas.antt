-- Pieces that are put behind one another.
use Rattle.std.proofs.Common.{◌≡◌, ℕ, List, ◌++◌, ap, ◌∙◌, append_assoc}
use Rattle.mm_base.specs.Room.{RoomState}

-- a piece was put behind what a room had
abbrev pub Adds : RoomState ℕ → List ℕ → RoomState ℕ → Type 0
Adds old piece new = new ≡ record { items = old.items ++ piece; room = old.room }

-- one piece behind another is both
pub both : (old middle new : RoomState ℕ) (front behind : List ℕ) → Adds old front middle → Adds middle behind new → Adds old (front ++ behind) new
both old middle new front behind a b =
    let after : RoomState ℕ → RoomState ℕ = λ m. record { items = m.items ++ behind; room = m.room } in
    b ∙ ap after a ∙ ap (λ (items : List ℕ). record { items = items; room = old.room }) (append_assoc old.items front behind)

-- a piece by another name
pub named : (old new : RoomState ℕ) (piece named : List ℕ) → Adds old piece new → piece ≡ named → Adds old named new
named old new piece name adds is = adds ∙ ap (λ (p : List ℕ). record { items = old.items ++ p; room = old.room }) is
