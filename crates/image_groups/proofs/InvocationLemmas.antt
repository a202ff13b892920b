-- An invocation goes along with a map of buses where something holds of the bus that its calls keep, its frame included.
use Rattle.std.proofs.Common.{◌≡◌, ℕ, ◌+◌, ◌-◌, List, [], ◌∷◌, Result, Ok, Err, refl, sym, ap, ◌∙◌}
use Rattle.ebc_machine.specs.Invocation.{Final, entered, frame, invoked, opened, opening, written, written_on}
use Rattle.ebc_machine.specs.Laws.{Carries, Keeps, mapped}
use Rattle.ebc_machine.specs.Stepping.{stepped}
use Rattle.ebc_machine.specs.declared.regs.Regs.{Regs}
use Rattle.ebc_machine.proofs.CarryLemmas.{invoked_along, stepped_along}
use Rattle.mm_base.specs.Bus.{Meaning}
use Rattle.mm_base.specs.declared.access.Denial.{Denial}
use Rattle.domain_runs.specs.Runs.{ending}

-- Each call of the second bus is that of the first one, through a map of buses, where something holds of the first.
pub record CarriesWhere {A B : Type 0} (P : A → Type 0) (h : A → B) (m : Meaning A) (n : Meaning B) : Type 0 where
  pub fetches : (a : A) (at count : ℕ) → P a → n.fetches (h a) at count ≡ mapped h (m.fetches a at count)
  pub reads : (a : A) (at count : ℕ) → P a → n.reads (h a) at count ≡ mapped h (m.reads a at count)
  pub writes : (a : A) (at count value : ℕ) → P a → n.writes (h a) at count value ≡ mapped h (m.writes a at count value)
  pub targets : (a : A) (at : ℕ) → P a → n.targets (h a) at ≡ m.targets a at
  pub serves : (a : A) (number stack : ℕ) → P a → n.serves (h a) number stack ≡ mapped h (m.serves a number stack)

-- a bus of which something holds
pub record Kept {A : Type 0} (P : A → Type 0) : Type 0 where
  pub bus : A
  pub has : P bus

module _ {A B : Type 0} (P : A → Type 0) (h : A → B) (m : Meaning A) (n : Meaning B) (keeps : Keeps P m) (carries : CarriesWhere P h m n) where
  -- the calls of the first bus, with what they keep
  kept_meaning : Meaning (Kept P)
  kept_meaning = record {
    fetches = λ k at count. ((m.fetches k.bus at count).0, record { bus = (m.fetches k.bus at count).1; has = keeps.fetches k.bus at count k.has });
    reads = λ k at count. ((m.reads k.bus at count).0, record { bus = (m.reads k.bus at count).1; has = keeps.reads k.bus at count k.has });
    writes = λ k at count value.
        ((m.writes k.bus at count value).0, record { bus = (m.writes k.bus at count value).1; has = keeps.writes k.bus at count value k.has });
    targets = λ k at. m.targets k.bus at;
    serves = λ k number stack.
        ((m.serves k.bus number stack).0, record { bus = (m.serves k.bus number stack).1; has = keeps.serves k.bus number stack k.has });
  }

  first_along : Carries (λ (k : Kept P). k.bus) kept_meaning m
  unfolding kept_meaning
  first_along = record {
    fetches = λ k at count. refl;
    reads = λ k at count. refl;
    writes = λ k at count value. refl;
    targets = λ k at. refl;
    serves = λ k number stack. refl;
  }

  second_along : Carries (λ (k : Kept P). h k.bus) kept_meaning n
  unfolding kept_meaning
  second_along = record {
    fetches = λ k at count. carries.fetches k.bus at count k.has;
    reads = λ k at count. carries.reads k.bus at count k.has;
    writes = λ k at count value. carries.writes k.bus at count value k.has;
    targets = λ k at. carries.targets k.bus at k.has;
    serves = λ k number stack. carries.serves k.bus number stack k.has;
  }

  pub invoked_along_where : (fuel : ℕ) (regs : Regs) (a : A) → P a → invoked n fuel regs (h a) ≡ mapped h (invoked m fuel regs a)
  invoked_along_where fuel regs a has =
      let k : Kept P = record { bus = a; has = has } in
      invoked_along (λ (k : Kept P). h k.bus) kept_meaning n second_along fuel regs k
      ∙ ap (mapped h) (sym (invoked_along (λ (k : Kept P). k.bus) kept_meaning m first_along fuel regs k))

  pub stepped_along_where : (regs : Regs) (a : A) → P a → stepped n regs (h a) ≡ mapped h (stepped m regs a)
  stepped_along_where regs a has =
      let k : Kept P = record { bus = a; has = has } in
      stepped_along (λ (k : Kept P). h k.bus) kept_meaning n second_along regs k
      ∙ ap (mapped h) (sym (stepped_along (λ (k : Kept P). k.bus) kept_meaning m first_along regs k))

  on_along : (x : Result (Unit {0}) Denial × A) (more : A → Result (Unit {0}) Denial × A) (other : B → Result (Unit {0}) Denial × B)
      → P x.1 → ((a : A) → P a → other (h a) ≡ mapped h (more a)) → written_on other (mapped h x) ≡ mapped h (written_on more x)
  on_along (Ok done, a) more other has each = each a has
  on_along (Err denial, a) more other has each = refl

  written_along : (at : ℕ) (words : List ℕ) (a : A) → P a → written n at words (h a) ≡ mapped h (written m at words a)
  written_along at [] a has = refl
  written_along at (word ∷ words) a has =
      ap (written_on (written n (at + 8) words)) (carries.writes a at 8 word has)
      ∙ on_along (m.writes a at 8 word) (written m (at + 8) words) (written n (at + 8) words) (keeps.writes a at 8 word has)
      (λ a has. written_along (at + 8) words a has)

  on_kept : (x : Result (Unit {0}) Denial × A) (more : A → Result (Unit {0}) Denial × A) → P x.1 → ((a : A) → P a → P (more a).1)
      → P (written_on more x).1
  on_kept (Ok done, a) more has each = each a has
  on_kept (Err denial, a) more has each = has

  written_kept : (at : ℕ) (words : List ℕ) (a : A) → P a → P (written m at words a).1
  written_kept at [] a has = has
  written_kept at (word ∷ words) a has =
      on_kept (m.writes a at 8 word) (written m (at + 8) words) (keeps.writes a at 8 word has) (λ a has. written_kept (at + 8) words a has)

  opened_along : (regs : Regs) (x : Result (Unit {0}) Denial × A) → opened regs (mapped h x) ≡ mapped h (opened regs x)
  opened_along regs (Ok done, a) = refl
  opened_along regs (Err denial, a) = refl

  ending_along : (fuel : ℕ) (x : Result Regs Denial × A) → P x.1 → ending n fuel (mapped h x) ≡ mapped h (ending m fuel x)
  ending_along fuel (Ok regs, a) has = ap (λ (y : Final × B). (y.0.ended, y.1)) (invoked_along_where fuel regs a has)
  ending_along fuel (Err denial, a) has = refl

  opened_kept : (regs : Regs) (x : Result (Unit {0}) Denial × A) → P x.1 → P (opened regs x).1
  opened_kept regs (Ok done, a) has = has
  opened_kept regs (Err denial, a) has = has

  pub run_along_where : (fuel stack address : ℕ) (arguments : List ℕ) (a : A) → P a
      → ending n fuel (entered n stack address arguments (h a)) ≡ mapped h (ending m fuel (entered m stack address arguments a))
  unfolding entered
  run_along_where fuel stack address arguments a has =
      ap (ending n fuel)
      (ap (opened (opening stack address)) (written_along (stack - 48) (frame arguments) a has)
      ∙ opened_along (opening stack address) (written m (stack - 48) (frame arguments) a))
      ∙ ending_along fuel (opened (opening stack address) (written m (stack - 48) (frame arguments) a))
      (opened_kept (opening stack address) (written m (stack - 48) (frame arguments) a) (written_kept (stack - 48) (frame arguments) a has))
