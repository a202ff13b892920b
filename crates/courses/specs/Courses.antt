-- Courses: items stand one after another, and lead from a place to another one. A place is whatever tells which item may stand there and
-- where the next one is looked for: a number, bytes, or both.
use Rattle.std.specs.Prelude.{◌≡◌, List, [], ◌∷◌}

-- Items lead from a place to another one: each stands where those in front of it lead.
abbrev pub Leads : {Place Item : Type 0} → (Place → Item → Type 0) → (Place → Item → Place) → Place → List Item → Place → Type 0
Leads Stands next at [] to = at ≡ to
Leads Stands next at (item ∷ items) to = Stands at item × Leads Stands next (next at item) items to

-- Items lead from a place to one where they stop.
pub record StopsAfter {Place Item : Type 0} (Stands : Place → Item → Type 0) (next : Place → Item → Place) (Stops : Place → Type 0)
    (from : Place) : Type 0 where
  pub items : List Item
  pub end : Place
  pub leads : Leads Stands next from items end
  pub stops : Stops end
