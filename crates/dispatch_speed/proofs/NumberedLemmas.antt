-- Drivers whose names have the numbers from 0 on: no two have one name.
use Rattle.std.proofs.Common.{◌≡◌, ℕ, ◌+◌, ◌*◌, ◌<◌, true, false, List, [], ◌∷◌, ◌++◌, refl, ap, arith}
use Rattle.std.specs.List.{slice_index, slice_index_or}
use Rattle.std.proofs.lemmas.List.Elements.{All-push}
use Rattle.std.proofs.lemmas.List.Quantifiers.{all_pairs_push}
use Rattle.std.proofs.lemmas.Slice.Eq.{bytes_eq-Decides}
use Rattle.mm_base.specs.Guid.{same_guid}
use Rattle.mm_base.specs.declared.guid.Guid.{Guid}
use Rattle.dispatcher.specs.Drivers.{NamesDiffer}
use Rattle.dispatcher.specs.declared.driver.Driver.{Driver}
use Rattle.dispatch_speed.specs.Numbered.{AreBelow, number_of}

-- GUIDs of different numbers differ
differ : (a b : Guid) → number_of a < number_of b → same_guid a b ≡ false
differ a b less =
    elim (same_guid a b) as (λ v. same_guid a b ≡ v → v ≡ false) [
      | true ↦ λ same. absurd (omega (
        arith,
        less,
        ap (λ (bytes : List ℕ). slice_index bytes 0 + 256 * slice_index bytes 1) ((bytes_eq-Decides a.0 b.0).0 same),
      ))
      | false ↦ λ _. refl
    ] refl

-- one more driver, with the next number
module _ (drivers : List Driver) (driver : Driver) (number : ℕ) (below : AreBelow number drivers) (next : number_of driver.name ≡ number) where
  pub AreBelow-push : AreBelow (number + 1) (drivers ++ driver ∷ [])
  AreBelow-push =
      All-push (λ one. number_of one.name < number + 1) drivers driver (λ k d in'. omega (arith, below k d in')) (omega (arith, next))

  pub NamesDiffer-push : NamesDiffer drivers → NamesDiffer (drivers ++ driver ∷ [])
  NamesDiffer-push names =
      all_pairs_push (λ one later. same_guid one.name later.name ≡ false) drivers driver names
      (λ k d in'. differ (slice_index_or drivers k d).name driver.name (omega (arith, below k d in', next)))
