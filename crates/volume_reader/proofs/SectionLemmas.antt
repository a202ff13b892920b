-- The sections of a body are one list, or one is refused behind some.
use Rattle.std.proofs.Common.{◌≡◌, ℕ, zero, suc, ◌+◌, ◌<◌, ◌≤◌, true, false, nat_le, List, [], ◌∷◌, ◌++◌, length, Some, None, refl, sym, ap, ◌∙◌, subst, arith}
use Rattle.std.specs.List.{slice_get}
use Rattle.std.proofs.lemmas.Bool.Decides.{nat_tests}
use Rattle.courses.proofs.CourseLemmas as course
use Rattle.courses.proofs.CourseLemmas.{Same, leads-more}
use Rattle.mm_base.specs.declared.volume.Section.{Section}
use Rattle.mm_base.specs.declared.volume.SectionFault.{SectionFault}
use Rattle.volume_reader.specs.Sections.{has_section, section_at, section_behind, HoldsSection, SectionsLead, AreSections, IsRefusedBehind, HasRefusal}

-- ---- where sections stand

-- a section stands at a place
pub record Stands (body : List ℕ) (at : ℕ) : Type 0 where
  pub room : nat_le (at + 4) (length body) ≡ true
  pub section : has_section body at ≡ true

-- the place behind it lies behind this one
pub section_moves : (body : List ℕ) (at : ℕ) → Stands body at → (at < section_behind body at) × (at + 4 ≤ length body)
section_moves body at stands =
    let room = stands.room in
    let section = stands.section in
    (grind (arith, nat_tests), grind (arith, nat_tests))

-- it is the one that these bytes tell
holds : (body : List ℕ) (begin at : ℕ) → Stands body at → HoldsSection body begin at (section_at body begin at)
holds body begin at stands = record { room = stands.room; whole = stands.section; is = refl }

held : (body : List ℕ) (begin at : ℕ) (section : Section) → HoldsSection body begin at section → Stands body at
held body begin at section holds = record { room = holds.room; section = holds.whole }

-- one more section behind others
pub leads-section : (body : List ℕ) (begin at : ℕ) (sections : List Section) (to : ℕ) → SectionsLead body begin at sections to → Stands body to
    → SectionsLead body begin at (sections ++ section_at body begin to ∷ []) (section_behind body to)
leads-section body begin at sections to leads stands =
    leads-more (HoldsSection body begin) (λ place section. section_behind body place) at sections to (section_at body begin to) leads (holds body begin to stands)

-- a place where no section stands
pub record Stop (body : List ℕ) (at : ℕ) : Type 0 where
  pub none : Stands body at → ⊥

pub ends_stop : (body : List ℕ) (begin : ℕ) (sections : List Section) (are : AreSections body begin sections) → Stop body are.end
ends_stop body begin sections are = record { none = λ there. let a = there.room in let b = are.ends in let e : true ≡ false = sym a ∙ b in cc }

pub refused_stop : (body : List ℕ) (begin : ℕ) (sections : List Section) (at : ℕ) → IsRefusedBehind body begin sections at → Stop body at
refused_stop body begin sections at refused = record { none = λ there. let a = there.section in let b = refused.bad in let e : true ≡ false = sym a ∙ b in cc }

-- ---- one course

pub one_course : (body : List ℕ) (begin at : ℕ) (some others : List Section) (one other : ℕ)
    → SectionsLead body begin at some one → Stop body one → SectionsLead body begin at others other → Stop body other → Same some others one other
one_course body begin at some others one other a stop b halt =
    course.one_course (HoldsSection body begin) (λ place section. section_behind body place) (Stop body)
    (λ place s t x y. x.is ∙ sym y.is) (λ place s stops stands. stops.none (held body begin place s stands)) at some others one other a stop b halt

-- ---- a body has one list of sections or one refusal

pub one_list : (body : List ℕ) (begin : ℕ) (one other : List Section) → AreSections body begin one → AreSections body begin other → one ≡ other
one_list body begin one other a b =
    (one_course body begin 0 one other a.end b.end a.reached.leads (ends_stop body begin one a) b.reached.leads (ends_stop body begin other b)).items

pub list_or_refusal : (body : List ℕ) (begin : ℕ) (sections : List Section) (fault : SectionFault) → AreSections body begin sections → HasRefusal body begin fault → ⊥
list_or_refusal body begin sections fault a b =
    let same = one_course body begin 0 sections b.sections a.end b.at a.reached.leads (ends_stop body begin sections a) b.refused.reached.leads (refused_stop body begin b.sections b.at b.refused) in
    let e : false ≡ true = sym a.ends ∙ ap (λ at. nat_le (at + 4) (length body)) same.ends ∙ b.refused.there in
    cc

pub one_refusal : (body : List ℕ) (begin : ℕ) (one other : SectionFault) → HasRefusal body begin one → HasRefusal body begin other → one ≡ other
one_refusal body begin one other a b =
    let same = one_course body begin 0 a.sections b.sections a.at b.at a.refused.reached.leads (refused_stop body begin a.sections a.at a.refused)
    b.refused.reached.leads (refused_stop body begin b.sections b.at b.refused) in
    let places : one.at ≡ other.at = a.place ∙ ap (λ at. begin + at) same.ends ∙ sym b.place in
    λ i. record { at = places i }

-- ---- by a number

-- a section with one number is one
pub same_at : (body : List ℕ) (begin at : ℕ) (some others : List Section) (one other index : ℕ) (s t : Section)
    → SectionsLead body begin at some one → SectionsLead body begin at others other → slice_get some index ≡ Some s → slice_get others index ≡ Some t → s ≡ t
same_at body begin at [] others one other index s t a b is are = let e : None ≡ Some s = is in cc
same_at body begin at (x ∷ some) [] one other index s t a b is are = let e : None ≡ Some t = are in cc
same_at body begin at (x ∷ some) (y ∷ others) one other zero s t a b is are =
    let first : Some x ≡ Some s = is in
    let second : Some y ≡ Some t = are in
    let same : x ≡ y = a.0.is ∙ sym b.0.is in
    cc
same_at body begin at (x ∷ some) (y ∷ others) one other (suc index) s t a b is are =
    same_at body begin (section_behind body at) some others one other index s t a.1 b.1 is are

-- where more sections stand, one stands behind fewer
pub stands_behind : (body : List ℕ) (begin at : ℕ) (more fewer : List Section) (one other : ℕ)
    → SectionsLead body begin at more one → SectionsLead body begin at fewer other → length fewer < length more → Stands body other
stands_behind body begin at [] fewer one other a b h = absurd (omega arith)
stands_behind body begin at (x ∷ more) [] one other a b h =
    let P : ℕ → Type 0 = λ place. Stands body place in
    subst P b (held body begin at x a.0)
stands_behind body begin at (x ∷ more) (y ∷ fewer) one other a b h = stands_behind body begin (section_behind body at) more fewer one other a.1 b.1 (omega arith)
