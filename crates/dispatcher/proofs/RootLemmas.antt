-- Above a driver that has a condition names form a tree: no chain of them has more links than there are drivers.
use Rattle.std.proofs.Common.{◌≡◌, ℕ, zero, suc, ◌+◌, ◌<◌, ◌≤◌, Bool, true, false, cond, not, ◌||◌, List, [], ◌∷◌, length, filter, Some, refl, sym, ap, ◌∙◌, subst, arith, inl, inr}
use Rattle.std.specs.List.{list_any}
use Rattle.std.proofs.lemmas.Bool.{false≢true, false_from_ne_true}
use Rattle.mm_base.specs.Guid.{same_guid}
use Rattle.mm_base.specs.declared.guid.Guid.{Guid}
use Rattle.depex.specs.Meaning.{named_before, named_after}
use Rattle.dispatcher.specs.Drivers.{NamesDiffer, after_drivers, before_drivers, names}
use Rattle.dispatcher.specs.FamiliesInside.{Fits, has_condition}
use Rattle.dispatcher.specs.declared.driver.Driver.{Driver}
use Rattle.dispatcher.proofs.NameLemmas.{In, In-filter, each_in, one_named, one_parent, orphan, parent, parent_after, parent_before, same_is, same_self}

abbrev among : List Guid → Guid → Bool
among path name = list_any (same_guid name) path

-- the drivers that aren't on a path of names
abbrev off : List Guid → Driver → Bool
off path driver = not (among path driver.name)

length_cons_cond : (b : Bool) (x : Driver) (xs : List Driver) → length (cond b (x ∷ xs) xs) ≡ cond b 1 0 + length xs
length_cons_cond true x xs = omega arith
length_cons_cond false x xs = omega arith

less_or_same : (a b : Bool) → (a ≡ true → b ≡ true) → cond {A = ℕ} a 1 0 ≤ cond {A = ℕ} b 1 0
less_or_same true b is = subst (λ (c : Bool). 1 ≤ cond c 1 0) (sym (is refl)) (omega arith)
less_or_same false true is = omega arith
less_or_same false false is = omega arith

fewer_or_same : (p q : Driver → Bool) → ((x : Driver) → q x ≡ true → p x ≡ true) → (xs : List Driver) → length (filter q xs) ≤ length (filter p xs)
fewer_or_same p q weaker [] = omega arith
fewer_or_same p q weaker (x ∷ xs) =
    omega (arith, length_cons_cond (p x) x (filter p xs), length_cons_cond (q x) x (filter q xs), fewer_or_same p q weaker xs, less_or_same (q x) (p x) (weaker x))

-- one that passes the one test and not the other makes the difference
fewer : (p q : Driver → Bool)
    → ((x : Driver) → q x ≡ true → p x ≡ true)
    → (xs : List Driver) (x : Driver)
    → In xs x
    → p x ≡ true
    → q x ≡ false
    → length (filter q xs) < length (filter p xs)
fewer p q weaker [] x is passes fails = absurd is
fewer p q weaker (y ∷ ys) x (inl is) passes fails =
    let one : p y ≡ true = ap p is ∙ passes in
    let none : q y ≡ false = ap q is ∙ fails in
    omega (
      arith,
      length_cons_cond (p y) y (filter p ys),
      length_cons_cond (q y) y (filter q ys),
      fewer_or_same p q weaker ys,
      ap {B = ℕ} (λ b. cond b 1 0) one,
      ap {B = ℕ} (λ b. cond b 1 0) none,
    )
fewer p q weaker (y ∷ ys) x (inr is) passes fails =
    omega (
      arith,
      length_cons_cond (p y) y (filter p ys),
      length_cons_cond (q y) y (filter q ys),
      fewer p q weaker ys x is passes fails,
      less_or_same (q y) (p y) (weaker y),
    )

module _ (drivers : List Driver) (differ : NamesDiffer drivers) where
  -- A driver off a path whose names, and its own, are named by no one but from the path.
  record Next (path : List Guid) (driver : Driver) : Type 0 where
    there : In drivers driver
    off_it : among path driver.name ≡ false
    closed : (other : Driver) → In drivers other → among (driver.name ∷ path) other.name ≡ true → (name : Guid) → parent other.depex ≡ Some name → among path name ≡ true

  -- the same of those that go with it, the path being longer by its name
  next_of : (path : List Guid) (driver child : Driver)
      → Next path driver
      → In drivers child
      → parent child.depex ≡ Some driver.name
      → Next (driver.name ∷ path) child
  next_of path driver child next is names_it = record {
    there = is;
    off_it = false_from_ne_true _ (λ on. false≢true (sym next.off_it ∙ next.closed child is on driver.name names_it));
    closed = λ other it on name named. closed_at other it name named (same_guid other.name child.name) refl on;
  }
    where
      or_true : (a b : Bool) → b ≡ true → (a || b) ≡ true
      or_true true b it = refl
      or_true false b it = it

      closed_at : (other : Driver) → In drivers other → (name : Guid) → parent other.depex ≡ Some name
          → (b : Bool) → same_guid other.name child.name ≡ b → (b || among (driver.name ∷ path) other.name) ≡ true
          → among (driver.name ∷ path) name ≡ true
      closed_at other it name named true same on =
          let one : other ≡ child = one_named drivers differ other child it is (same_is other.name child.name same) in
          let it_names : name ≡ driver.name = one_parent child.depex name driver.name (sym (ap (λ (d : Driver). parent d.depex) one) ∙ named) names_it in
          ap (λ b. b || among path name) (same_self name driver.name it_names)
      closed_at other it name named false same on =
          or_true (same_guid name driver.name) (among path name) (next.closed other it on name named)

  fewer_off : (path : List Guid) (driver : Driver)
      → Next path driver
      → length (filter (off (driver.name ∷ path)) drivers) < length (filter (off path) drivers)
  fewer_off path driver next =
      fewer (off path) (off (driver.name ∷ path)) (λ x. weaker (same_guid x.name driver.name) (among path x.name)) drivers driver next.there
      (ap not next.off_it)
      (ap (λ b. not (b || among path driver.name)) (same_self driver.name driver.name refl))
    where
      weaker : (a b : Bool) → not (a || b) ≡ true → not b ≡ true
      weaker true b is = absurd (false≢true is)
      weaker false b is = is

  some_off : (path : List Guid) (driver : Driver) → Next path driver → 0 < length (filter (off path) drivers)
  some_off path driver next =
      omega (arith, fewer (off path) (λ _. false) (λ _ is. absurd (false≢true is)) drivers driver next.there (ap not next.off_it) refl)

  fits_next : (links : ℕ) (path : List Guid) (driver : Driver)
      → Next path driver
      → length (filter (off path) drivers) ≤ links
      → Fits (before_drivers drivers) (after_drivers drivers) links driver
  fits_next zero path driver next few = absurd (omega (arith, few, some_off path driver next))
  fits_next (suc links) path driver next few =
      let fewer_links : length (filter (off (driver.name ∷ path)) drivers) ≤ links = omega (arith, few, fewer_off path driver next) in
      let P : Driver → Type 0 = Fits (before_drivers drivers) (after_drivers drivers) links in (
        each_in P (before_drivers drivers driver) (λ child is.
            let kept : In drivers child × (names named_before child.depex driver.name ≡ true) = In-filter (λ (other : Driver). names named_before other.depex driver.name) drivers child is in
            fits_next links (driver.name ∷ path) child (next_of path driver child next kept.0 (parent_before child.depex driver.name kept.1)) fewer_links),
        each_in P (after_drivers drivers driver) (λ child is.
            let kept : In drivers child × (names named_after child.depex driver.name ≡ true) = In-filter (λ (other : Driver). names named_after other.depex driver.name) drivers child is in
            fits_next links (driver.name ∷ path) child (next_of path driver child next kept.0 (parent_after child.depex driver.name kept.1)) fewer_links),
      )

  root : (driver : Driver) → In drivers driver → has_condition driver ≡ true → Next [] driver
  root driver is condition = record {
    there = is;
    off_it = refl;
    closed = λ other it on name named.
        let same : other.name ≡ driver.name = same_is other.name driver.name (or_false (same_guid other.name driver.name) on) in
        let one : other ≡ driver = one_named drivers differ other driver it is same in
        absurd (orphan driver.depex name condition (sym (ap (λ (d : Driver). parent d.depex) one) ∙ named));
  }
    where
      or_false : (a : Bool) → (a || false) ≡ true → a ≡ true
      or_false true is = refl
      or_false false is = is

  pub root_fits : (driver : Driver)
      → In drivers driver
      → has_condition driver ≡ true
      → Fits (before_drivers drivers) (after_drivers drivers) (length drivers) driver
  root_fits driver is condition =
      fits_next (length drivers) [] driver (root driver is condition) (no_more (off []) drivers)
    where
      at_most : (b : Bool) → cond b 1 0 ≤ 1
      at_most true = omega arith
      at_most false = omega arith

      no_more : (p : Driver → Bool) (xs : List Driver) → length (filter p xs) ≤ length xs
      no_more p [] = omega arith
      no_more p (x ∷ xs) = omega (arith, length_cons_cond (p x) x (filter p xs), at_most (p x), no_more p xs)
