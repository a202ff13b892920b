-- One value or one fault, and what is answered where there is one.
use Rattle.std.proofs.Common.{◌≡◌, ◌⊎◌, inl, inr, Result, Ok, Err, IfOk, IfErr, refl, ap}
use Rattle.mm_base.specs.End.{EndsBy, out_of_memory}
use Rattle.mm_base.specs.declared.end.End.{End}
use Rattle.mm_base.specs.declared.end.End.TheVariants.{Fault, NoMemory}
use Rattle.courses.specs.Verdicts.{IsVerdict}

module _ {Value Failure : Type 0} (Is : Value → Type 0) (Has : Failure → Type 0) where
  -- one verdict at most is never both, one value at most, and one fault at most
  module _ (one_verdict : (one other : Result Value Failure) → IsVerdict Is Has one → IsVerdict Is Has other → one ≡ other) where
    pub never_both : (value : Value) (fault : Failure) → Is value → Has fault → ⊥
    never_both value fault is has = let e : Ok value ≡ Err fault = one_verdict (Ok value) (Err fault) is has in cc

    pub one_value : (one other : Value) → Is one → Is other → one ≡ other
    one_value one other a b = let e : Ok one ≡ Ok other = one_verdict (Ok one) (Ok other) a b in cc

    pub one_fault : (one other : Failure) → Has one → Has other → one ≡ other
    one_fault one other a b = let e : Err one ≡ Err other = one_verdict (Err one) (Err other) a b in cc

  -- a verdict is a value or a fault
  pub told : (verdict : Result Value Failure) → IsVerdict Is Has verdict → ((value : Value) × Is value) ⊎ ((fault : Failure) × Has fault)
  told (Ok value) is = inl (value, is)
  told (Err fault) has = inr (fault, has)

  module _ (never : (value : Value) (fault : Failure) → Is value → Has fault → ⊥) where
    -- what is answered is the value that there is, out of memory aside
    module _ (one : (a b : Value) → Is a → Is b → a ≡ b) where
      pub found : (result : Result Value Failure) → IfOk result Is → IfErr result Has → (value : Value) → Is value → result ≡ Ok value
      found (Ok other) ok err value is = ap Ok (one other value ok is)
      found (Err fault) ok err value is = absurd (never value fault is err)

      pub found_or_end : (result : Result Value (End Failure)) → IfOk result Is → IfErr result (EndsBy Has)
          → (value : Value) → Is value → (result ≡ Ok value) ⊎ (result ≡ Err (NoMemory out_of_memory))
      found_or_end (Ok other) ok err value is = inl (ap Ok (one other value ok is))
      found_or_end (Err (Fault fault)) ok err value is = absurd (never value fault is err)
      found_or_end (Err (NoMemory refused)) ok err value is = inr refl

    -- or the fault
    module _ (one : (a b : Failure) → Has a → Has b → a ≡ b) where
      pub first : (result : Result Value Failure) → IfOk result Is → IfErr result Has → (fault : Failure) → Has fault → result ≡ Err fault
      first (Ok value) ok err fault has = absurd (never value fault ok has)
      first (Err other) ok err fault has = ap Err (one other fault err has)

      pub first_or_end : (result : Result Value (End Failure)) → IfOk result Is → IfErr result (EndsBy Has)
          → (fault : Failure) → Has fault → (result ≡ Err (Fault fault)) ⊎ (result ≡ Err (NoMemory out_of_memory))
      first_or_end (Ok value) ok err fault has = absurd (never value fault ok has)
      first_or_end (Err (Fault other)) ok err fault has = inl (ap (λ f. Err (Fault f)) (one other fault err has))
      first_or_end (Err (NoMemory refused)) ok err fault has = inr refl
