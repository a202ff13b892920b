-- Steps that stand for a recursion.
use Rattle.std.proofs.Common.{◌≡◌, ℕ, ◌+◌, ◌*◌, ◌<◌, List, [], ◌∷◌, ◌++◌, length, map, refl, sym, ap, ◌∙◌, subst, arith, append_assoc, length-append, reverse}
use Rattle.std.proofs.lemmas.List.{reverse-append, reverse-reverse}
use Rattle.mm_base.proofs.ListLemmas.{map-reverse}
use Rattle.std.specs.List.{flat_map, AllByRecursion}
use Rattle.std.proofs.lemmas.List.Concat.{flat_map-append}
use Rattle.dispatcher.specs.FamiliesInside.{Doing, Fits, FitsStep, costs, meant}
use Rattle.dispatcher.specs.Rounds.{family}
use Rattle.dispatcher.specs.declared.driver.Member.{Member}
use Rattle.dispatcher.specs.declared.families.Step.{Step}
use Rattle.dispatcher.specs.declared.families.Step.TheVariants.{Family, Alone}
use Rattle.dispatcher.proofs.FamilyLemmas.{family_opens, fits_more}

module _ (before after : Member → List Member) (links : ℕ) where
  families_mean : (members : List Member) → flat_map (meant before after links) (map Family members) ≡ flat_map (family before after links) members
  families_mean [] = refl
  families_mean (member ∷ members) = ap (λ rest. family before after links member ++ rest) (families_mean members)

  families_fit : (members : List Member)
      → AllByRecursion (Fits before after links) members
      → (steps : List Step)
      → AllByRecursion (FitsStep before after links) steps
      → AllByRecursion (FitsStep before after links) (map Family members ++ steps)
  families_fit [] all steps others = others
  families_fit (member ∷ members) all steps others = (all.0, families_fit members all.1 steps others)

  families_cost : (members : List Member) (steps : List Step)
      → costs before after links (map Family members ++ steps)
      ≡ 2 * length (flat_map (family before after links) members) + costs before after links steps
  families_cost [] steps = omega arith
  families_cost (member ∷ members) steps =
      omega (arith, families_cost members steps, length-append (family before after links member) (flat_map (family before after links) members))

  -- a family, with the steps that it opens into
  abbrev pub opens : Member → List Step → List Step
  opens member steps = map Family (before member) ++ Alone member ∷ (map Family (after member) ++ steps)

  opens_mean : (member : Member) (steps : List Step)
      → Fits before after links member
      → flat_map (meant before after links) (opens member steps)
      ≡ family before after links member ++ flat_map (meant before after links) steps
  opens_mean member steps fits =
      let means : List Step → List Member = flat_map (meant before after links) in
      let all : List Member → List Member = flat_map (family before after links) in
      flat_map-append (meant before after links) (map Family (before member)) (Alone member ∷ (map Family (after member) ++ steps))
      ∙ (ap (λ some. some ++ member ∷ means (map Family (after member) ++ steps)) (families_mean (before member))
      ∙ (ap (λ some. all (before member) ++ member ∷ some) (flat_map-append (meant before after links) (map Family (after member)) steps ∙ ap (λ some. some ++ means steps) (families_mean (after member)))
      ∙ (sym (append_assoc (all (before member)) (member ∷ all (after member)) (means steps))
      ∙ ap (λ some. some ++ means steps) (sym (family_opens before after links member fits)))))

  pub doing_family : (member : Member) (steps : List Step) (scheduled all : List Member)
      → Doing before after links (Family member ∷ steps) scheduled all
      → Doing before after links (opens member steps) scheduled all
  doing_family member steps scheduled all doing = record {
    rest = ap (λ some. scheduled ++ some) (opens_mean member steps doing.fits.0) ∙ doing.rest;
    fits = families_fit (before member) (fits_more before after links member doing.fits.0).0 (Alone member ∷ (map Family (after member) ++ steps))
        (tt, families_fit (after member) (fits_more before after links member doing.fits.0).1 steps doing.fits.1);
  }

  -- opening costs less than the family
  pub opens_cheaper : (member : Member) (steps : List Step)
      → Fits before after links member
      → costs before after links (opens member steps) < costs before after links (Family member ∷ steps)
  opens_cheaper member steps fits =
      let all : List Member → List Member = flat_map (family before after links) in
      omega (
        arith,
        families_cost (before member) (Alone member ∷ (map Family (after member) ++ steps)),
        families_cost (after member) steps,
        ap length (family_opens before after links member fits),
        length-append (all (before member)) (member ∷ all (after member)),
      )

-- families that are put at the end of a list stand in front of it where it is read from its end
pub put_in_front : (old new : List Step) (members yielded : List Member)
    → new ≡ old ++ map Family yielded
    → yielded ≡ reverse members
    → reverse new ≡ map Family members ++ reverse old
put_in_front old new members yielded is all =
    ap reverse (is ∙ ap (λ some. old ++ map Family some) all)
    ∙ (reverse-append old (map Family (reverse members))
    ∙ ap (λ some. some ++ reverse old) (sym (map-reverse Family (reverse members)) ∙ ap (map Family) (reverse-reverse members)))

-- the last of a list is the first where it is read from its end
pub popped : (old new : List Step) (step : Step) → old ≡ new ++ step ∷ [] → reverse old ≡ step ∷ reverse new
popped old new step is = ap reverse is ∙ reverse-append new (step ∷ [])

module _ (before after : Member → List Member) (links : ℕ) (member : Member) (old new opened : List Step) (scheduled all : List Member)
    (first : reverse old ≡ Family member ∷ reverse new) (is : opened ≡ opens before after links member (reverse new)) (doing : Doing before after links (reverse old) scheduled all) where
  doing_first : Doing before after links (Family member ∷ reverse new) scheduled all
  doing_first = subst (λ (steps : List Step). Doing before after links steps scheduled all) first doing

  pub family_opened : Doing before after links opened scheduled all
  family_opened =
      subst (λ (steps : List Step). Doing before after links steps scheduled all) (sym is)
      (doing_family before after links member (reverse new) scheduled all doing_first)

  pub family_cheaper : costs before after links opened < costs before after links (reverse old)
  family_cheaper =
      omega (
        arith,
        opens_cheaper before after links member (reverse new) doing_first.fits.0,
        ap (costs before after links) is,
        ap (costs before after links) first,
      )
