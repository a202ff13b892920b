-- What holds of a registry still holds where a handler comes, and where some go.
use Rattle.std.proofs.Common.{◌≡◌, ◌<◌, ℕ, ◌+◌, Bool, false, List, [], ◌∷◌, ◌++◌, length, refl, sym, ap, subst, ◌∙◌, arith, length-append}
use Rattle.std.specs.Bool.{IsTrue}
use Rattle.std.specs.List.{filter, All}
use Rattle.mm_base.specs.declared.handler.Handler.{Handler}
use Rattle.mmi_registry.specs.Handlers.{is_built_in, built_ins}
use Rattle.mmi_registry.specs.Registry.{IsAdmissible, IsRegistry, is_quota_used}
use Rattle.mmi_registry.proofs.NumberLemmas.{IsNumbered-push, IsNumbered-filter}
use Rattle.mmi_registry.proofs.RoomLemmas.{length-room, IsWithinRoom-push, IsWithinRoom-filter}

-- One more handler. The code looked for its image's place in `seen`, and its caller knows of `listed` that there is place for one
-- that is built in.
module _ (handlers seen listed : List Handler) (same : seen ≡ handlers) (listed_is : handlers ≡ listed) where
  pub IsRegistry-push : (handler : Handler) (capacity : ℕ) → IsRegistry handlers handler.number capacity
      → IsAdmissible handler.body → is_quota_used handler.body seen ≡ false
      → (IsTrue (is_built_in handler.body) → length (built_ins listed) < 65)
      → IsRegistry (handlers ++ handler ∷ []) (handler.number + 1) capacity
  IsRegistry-push handler capacity is admissible unused room =
      let Few : List Handler → Type 0 = λ items. length (built_ins items) < 65 in
      let left : is_quota_used handler.body handlers ≡ false = ap (is_quota_used handler.body) (sym same) ∙ unused in
      record {
        numbered = IsNumbered-push handlers handler.number is.numbered handler refl;
        few = IsWithinRoom-push handlers is.few handler admissible left (λ built_in. subst Few (sym listed_is) (room built_in));
        place = is.place;
      }

-- where one more handler keeps the invariant, there is a place for it
pub place_for : (handlers : List Handler) (handler : Handler) (next capacity : ℕ)
    → IsRegistry (handlers ++ handler ∷ []) next capacity → length handlers < capacity
place_for handlers handler next capacity is =
    omega (arith, length-room (handlers ++ handler ∷ []) is.few, length-append handlers (handler ∷ []), is.place)

module _ (handlers : List Handler) (next capacity : ℕ) (is : IsRegistry handlers next capacity) where
  pub IsRegistry-filter : (p : Handler → Bool) → IsRegistry (filter p handlers) next capacity
  IsRegistry-filter p = record {
    numbered = IsNumbered-filter handlers next is.numbered p;
    few = IsWithinRoom-filter handlers is.few p;
    place = is.place;
  }

  -- the next number may go back to one that is above all
  pub IsRegistry-back : (back : ℕ) → All (λ handler. handler.number < back) handlers → IsRegistry handlers back capacity
  IsRegistry-back back above = record {
    numbered = record { rising = is.numbered.rising; below = above };
    few = is.few;
    place = is.place;
  }
