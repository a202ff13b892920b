-- Courses: one more item, one course from a place to where items stop, and that there is one.
use Rattle.std.proofs.Common.{◌≡◌, ◌⊎◌, inl, inr, ℕ, ◌<◌, List, [], ◌∷◌, ◌++◌, refl, sym, ◌∙◌, subst}
use Rattle.courses.specs.Courses.{Leads, StopsAfter}
use Rattle.courses.proofs.MeasureLemmas.{by_measure}

-- two courses have the same items, and lead to the same place
pub record Same {Place Item : Type 0} (some others : List Item) (one other : Place) : Type 0 where
  pub items : some ≡ others
  pub ends : one ≡ other

module _ {Place Item : Type 0} (Stands : Place → Item → Type 0) (next : Place → Item → Place) where
  -- one course after another is a course
  pub leads-append : (at : Place) (some others : List Item) (mid to : Place)
      → Leads Stands next at some mid → Leads Stands next mid others to → Leads Stands next at (some ++ others) to
  leads-append at [] others mid to leads on =
      let P : Place → Type 0 = λ place. Leads Stands next place others to in
      subst P (sym leads) on
  leads-append at (item ∷ some) others mid to leads on = (leads.0, leads-append (next at item) some others mid to leads.1 on)

  -- so is one with one more item
  pub leads-more : (at : Place) (items : List Item) (to : Place) (item : Item)
      → Leads Stands next at items to → Stands to item → Leads Stands next at (items ++ item ∷ []) (next to item)
  leads-more at items to item leads stands = leads-append at items (item ∷ []) to (next to item) leads (stands, refl)

  module _ (Stops : Place → Type 0) where
    -- where one item stands at a place, and none where they stop, there is one course that stops
    module _ (one_item : (at : Place) (one other : Item) → Stands at one → Stands at other → one ≡ other)
        (no_item : (at : Place) (item : Item) → Stops at → Stands at item → ⊥) where
      pub one_course : (at : Place) (some others : List Item) (here there : Place)
          → Leads Stands next at some here → Stops here → Leads Stands next at others there → Stops there → Same some others here there
      one_course at [] [] here there a stop b halt = record { items = refl; ends = sym a ∙ b }
      one_course at [] (item ∷ others) here there a stop b halt = absurd (no_item at item (subst Stops (sym a) stop) b.0)
      one_course at (item ∷ some) [] here there a stop b halt = absurd (no_item at item (subst Stops (sym b) halt) a.0)
      one_course at (item ∷ some) (more ∷ others) here there a stop b halt =
          let same = one_item at item more a.0 b.0 in
          let P : Item → Type 0 = λ i. Leads Stands next (next at i) others there in
          let rest = one_course (next at item) some others here there a.1 stop (subst P (sym same) b.1) halt in
          record { items = λ i. same i ∷ rest.items i; ends = rest.ends }

    -- where an item stands at each place where they don't stop, and each leads on, each course stops
    module _ (left : Place → ℕ) (either : (at : Place) → Stops at ⊎ ((item : Item) × Stands at item))
        (less : (at : Place) (item : Item) → Stands at item → left (next at item) < left at) where
      step : (at : Place) → ((other : Place) → left other < left at → StopsAfter Stands next Stops other) → StopsAfter Stands next Stops at
      step at rest = by_case (either at)
        where
          by_case : Stops at ⊎ ((item : Item) × Stands at item) → StopsAfter Stands next Stops at
          by_case (inl stops) = record { items = []; end = at; leads = refl; stops = stops }
          by_case (inr (item, stands)) =
              let more = rest (next at item) (less at item stands) in
              record { items = item ∷ more.items; end = more.end; leads = (stands, more.leads); stops = more.stops }

      pub each_stops : (at : Place) → StopsAfter Stands next Stops at
      each_stops at = by_measure (StopsAfter Stands next Stops) left step at
