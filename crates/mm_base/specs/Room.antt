-- What contracts see of a thing that is filled without taking memory: what is in it, and how much it may have.
use Rattle.std.specs.Prelude.{ℕ, List, refl}
use Rattle.std.specs.Coded.{Coded, code_by, coded×, coded_ℕ, coded_list}

-- The items so far, and how many there is place for in all.
pub record RoomState (T : Type 0) : Type 0 where
  pub items : List T
  pub room : ℕ

-- a room is stored as the pair of its fields
abbrev pub room_code : {T : Type 0} → Coded T → Coded (RoomState T)
room_code {T} c =
    code_by
    (List T × ℕ)
    (coded× (coded_list c) coded_ℕ)
    (λ r. (r.items, r.room))
    (λ p. record { items = p.0; room = p.1 })
    (λ _. refl)
