-- Families, whose links are few enough, and how they are mapped.
use Rattle.std.proofs.Common.{◌≡◌, ℕ, zero, suc, List, [], ◌∷◌, ◌++◌, map, refl, sym, ap, ◌∙◌, subst}
use Rattle.std.specs.List.{flat_map, AllByRecursion}
use Rattle.std.proofs.lemmas.List.{map-append}
use Rattle.dispatcher.specs.FamiliesInside.{Fits}
use Rattle.dispatcher.specs.Rounds.{family}

pub all_weaker : {X : Type 0} (P Q : X → Type 0)
    → ((x : X) → P x → Q x)
    → (xs : List X)
    → AllByRecursion P xs
    → AllByRecursion Q xs
all_weaker P Q weaker [] all = tt
all_weaker P Q weaker (x ∷ xs) all = (weaker x all.0, all_weaker P Q weaker xs all.1)

flat_map_agree : {X A : Type 0} (f g : X → List A) (P : X → Type 0)
    → ((x : X) → P x → f x ≡ g x)
    → (xs : List X)
    → AllByRecursion P xs
    → flat_map f xs ≡ flat_map g xs
flat_map_agree f g P agree [] all = refl
flat_map_agree f g P agree (x ∷ xs) all =
    ap (λ front. front ++ flat_map f xs) (agree x all.0) ∙ ap (λ rest. g x ++ rest) (flat_map_agree f g P agree xs all.1)

-- links

module _ {X : Type 0} (before after : X → List X) where
  pub fits_more : (links : ℕ) (x : X) → Fits before after links x → Fits before after (suc links) x
  fits_more zero x fits =
      let P : List X → Type 0 = λ xs. AllByRecursion (Fits before after zero) xs in
      (subst P (sym fits.0) tt, subst P (sym fits.1) tt)
  fits_more (suc links) x fits = (
    all_weaker (Fits before after links) (Fits before after (suc links)) (fits_more links) (before x) fits.0,
    all_weaker (Fits before after links) (Fits before after (suc links)) (fits_more links) (after x) fits.1,
  )

  links_enough : (links : ℕ) (x : X) → Fits before after links x → family before after (suc links) x ≡ family before after links x
  links_enough zero x fits =
      ap (λ (xs : List X). flat_map (family before after zero) xs ++ x ∷ flat_map (family before after zero) (after x)) fits.0
      ∙ ap (λ (xs : List X). x ∷ flat_map (family before after zero) xs) fits.1
  links_enough (suc links) x fits =
      let more : X → List X = family before after (suc links) in
      let enough : X → List X = family before after links in
      ap (λ front. front ++ x ∷ flat_map more (after x)) (flat_map_agree more enough (Fits before after links) (links_enough links) (before x) fits.0)
      ∙ ap (λ behind. flat_map enough (before x) ++ x ∷ behind) (flat_map_agree more enough (Fits before after links) (links_enough links) (after x) fits.1)

  -- a family opens into the families of those in front, itself, and the families of those behind
  pub family_opens : (links : ℕ) (x : X)
      → Fits before after links x
      → family before after links x ≡ flat_map (family before after links) (before x) ++ x ∷ flat_map (family before after links) (after x)
  family_opens links x fits = sym (links_enough links x fits)

-- maps

module _ {X Y : Type 0} (f : X → Y) where
  mapped_all : (g : X → List X) (h : Y → List Y)
      → ((x : X) → map f (g x) ≡ h (f x))
      → (xs : List X)
      → map f (flat_map g xs) ≡ flat_map h (map f xs)
  mapped_all g h each [] = refl
  mapped_all g h each (x ∷ xs) =
      map-append f (g x) (flat_map g xs)
      ∙ (ap (λ front. front ++ map f (flat_map g xs)) (each x) ∙ ap (λ rest. h (f x) ++ rest) (mapped_all g h each xs))

  all_mapped : (P : X → Type 0) (Q : Y → Type 0)
      → ((x : X) → P x → Q (f x))
      → (xs : List X)
      → AllByRecursion P xs
      → AllByRecursion Q (map f xs)
  all_mapped P Q each [] all = tt
  all_mapped P Q each (x ∷ xs) all = (each x all.0, all_mapped P Q each xs all.1)

  module _ (before after : X → List X) (front behind : Y → List Y) (in_front : (x : X) → front (f x) ≡ map f (before x)) (at_back : (x : X) → behind (f x) ≡ map f (after x)) where
    pub mapped_family : (links : ℕ) (x : X) → map f (family before after links x) ≡ family front behind links (f x)
    mapped_family zero x = refl
    mapped_family (suc links) x =
        let g : X → List X = family before after links in
        let h : Y → List Y = family front behind links in
        map-append f (flat_map g (before x)) (x ∷ flat_map g (after x))
        ∙ (ap (λ some. some ++ f x ∷ map f (flat_map g (after x))) (mapped_all g h (mapped_family links) (before x) ∙ ap (flat_map h) (sym (in_front x)))
        ∙ ap (λ some. flat_map h (front (f x)) ++ f x ∷ some) (mapped_all g h (mapped_family links) (after x) ∙ ap (flat_map h) (sym (at_back x))))

    pub mapped_fits : (links : ℕ) (x : X) → Fits before after links x → Fits front behind links (f x)
    mapped_fits zero x fits = (in_front x ∙ ap (map f) fits.0, at_back x ∙ ap (map f) fits.1)
    mapped_fits (suc links) x fits =
        let P : List Y → Type 0 = λ ys. AllByRecursion (Fits front behind links) ys in (
          subst P (sym (in_front x)) (all_mapped (Fits before after links) (Fits front behind links) (mapped_fits links) (before x) fits.0),
          subst P (sym (at_back x)) (all_mapped (Fits before after links) (Fits front behind links) (mapped_fits links) (after x) fits.1),
        )
