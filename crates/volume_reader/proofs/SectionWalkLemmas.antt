-- A walk over the sections of a body.
use Rattle.std.proofs.Common.{◌≡◌, ◌+◌, Bool, true, false, ◌&&◌, nat_le, List, [], ◌∷◌, ◌++◌, length, Some, None, Ok, Err, refl, sym, ap, ◌∙◌, subst}
use Rattle.mm_base.specs.declared.volume.Section.{Section}
use Rattle.mm_base.specs.declared.volume.SectionFault.{SectionFault}
use Rattle.volume_reader.specs.Sections.{has_section, section_at, section_behind, SectionsLead, AreSections, IsRefusedBehind, Walk, given_next, walked_on}
use Rattle.volume_reader.proofs.SectionLemmas.{Stands, leads-section}

-- ---- what a walk gives

-- what a walk gives, by what stands at its place
pub data Gives (walk : Walk) : Type 0 where
  GivesSection : Stands walk.body walk.place → given_next walk ≡ Ok (Some (section_at walk.body walk.begin walk.place))
      → walked_on walk ≡ record walk { place = section_behind walk.body walk.place } → Gives walk
  GivesNone : nat_le (walk.place + 4) (length walk.body) ≡ false → given_next walk ≡ Ok None → Gives walk
  GivesFault : nat_le (walk.place + 4) (length walk.body) ≡ true → has_section walk.body walk.place ≡ false
      → given_next walk ≡ Err (record { at = walk.begin + walk.place }) → Gives walk

pub gives : (walk : Walk) → Gives walk
gives walk = by_tests (nat_le (walk.place + 4) (length walk.body)) (has_section walk.body walk.place) refl refl
  where
    by_tests : (room section : Bool) → nat_le (walk.place + 4) (length walk.body) ≡ room → has_section walk.body walk.place ≡ section → Gives walk
    by_tests true true a b = GivesSection (record { room = a; section = b }) (rw (a, b)) (rw (a, b))
    by_tests true false a b = GivesFault a b (rw (a, b))
    by_tests false section a b = GivesNone a (rw a)

-- a walk stays in its body
pub same_body : (walk : Walk) → (walked_on walk).body ≡ walk.body
same_body walk = by_gift (nat_le (walk.place + 4) (length walk.body) && has_section walk.body walk.place) refl
  where
    by_gift : (gives : Bool) → (nat_le (walk.place + 4) (length walk.body) && has_section walk.body walk.place) ≡ gives → (walked_on walk).body ≡ walk.body
    by_gift true e = rw e
    by_gift false e = rw e

pub same_begin : (walk : Walk) → (walked_on walk).begin ≡ walk.begin
same_begin walk = by_gift (nat_le (walk.place + 4) (length walk.body) && has_section walk.body walk.place) refl
  where
    by_gift : (gives : Bool) → (nat_le (walk.place + 4) (length walk.body) && has_section walk.body walk.place) ≡ gives → (walked_on walk).begin ≡ walk.begin
    by_gift true e = rw e
    by_gift false e = rw e

-- ---- the sections that a walk has come over

-- a walk has come over these sections
pub record Over (walk : Walk) (sections : List Section) : Type 0 where
  pub leads : SectionsLead walk.body walk.begin 0 sections walk.place

pub over_more : (walk next : Walk) (sections : List Section) (section : Section) → Over walk sections → given_next walk ≡ Ok (Some section) → next ≡ walked_on walk
    → Over next (sections ++ section ∷ [])
over_more walk next sections section over given is = by_gift (gives walk)
  where
    by_gift : Gives walk → Over next (sections ++ section ∷ [])
    by_gift (GivesSection stands gift on) =
        let e : Ok (Some (section_at walk.body walk.begin walk.place)) ≡ Ok (Some section) = sym gift ∙ given in
        let same : section_at walk.body walk.begin walk.place ≡ section = cc in
        let P : Section → Type 0 = λ s. Over (record walk { place = section_behind walk.body walk.place }) (sections ++ s ∷ []) in
        let Q : Walk → Type 0 = λ w. Over w (sections ++ section ∷ []) in
        subst Q (sym (is ∙ on)) (subst P same (record { leads = leads-section walk.body walk.begin 0 sections walk.place over.leads stands }))
    by_gift (GivesNone left gift) = let e : Ok None ≡ Ok (Some section) = sym gift ∙ given in cc
    by_gift (GivesFault left bad gift) = let fault : SectionFault = record { at = walk.begin + walk.place } in let e : Err fault ≡ Ok (Some section) = sym gift ∙ given in cc

pub over_end : (walk : Walk) (sections : List Section) → Over walk sections → given_next walk ≡ Ok None → AreSections walk.body walk.begin sections
over_end walk sections over given = by_gift (gives walk)
  where
    by_gift : Gives walk → AreSections walk.body walk.begin sections
    by_gift (GivesSection stands gift on) = let e : Ok (Some (section_at walk.body walk.begin walk.place)) ≡ Ok None = sym gift ∙ given in cc
    by_gift (GivesNone left gift) = record { end = walk.place; reached = record { leads = over.leads }; ends = left }
    by_gift (GivesFault left bad gift) = let fault : SectionFault = record { at = walk.begin + walk.place } in let e : Err fault ≡ Ok None = sym gift ∙ given in cc

pub over_refused : (walk : Walk) (sections : List Section) (fault : SectionFault) → Over walk sections → given_next walk ≡ Err fault
    → IsRefusedBehind walk.body walk.begin sections walk.place × (fault.at ≡ walk.begin + walk.place)
over_refused walk sections fault over given = by_gift (gives walk)
  where
    by_gift : Gives walk → IsRefusedBehind walk.body walk.begin sections walk.place × (fault.at ≡ walk.begin + walk.place)
    by_gift (GivesSection stands gift on) = let e : Ok (Some (section_at walk.body walk.begin walk.place)) ≡ Err fault = sym gift ∙ given in cc
    by_gift (GivesNone left gift) = let e : Ok None ≡ Err fault = sym gift ∙ given in cc
    by_gift (GivesFault left bad gift) =
        let there : SectionFault = record { at = walk.begin + walk.place } in
        let e : Err there ≡ Err fault = sym gift ∙ given in
        let same : there ≡ fault = cc in
        (record { reached = record { leads = over.leads }; there = left; bad = bad }, sym (ap (λ (f : SectionFault). f.at) same))
