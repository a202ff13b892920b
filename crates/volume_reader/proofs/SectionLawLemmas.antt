-- The laws of sections: a list or a refusal, and what a walk gives.
use Rattle.std.proofs.Common.{◌≡◌, ◌⊎◌, inl, inr, ◌↔◌, ℕ, ◌+◌, ◌-◌, Bool, true, false, nat_le, List, [], ◌∷◌, length, Option, Some, None, Result, Ok, Err, refl, sym, ap, ◌∙◌, subst, arith}
use Rattle.courses.specs.Courses.{StopsAfter}
use Rattle.courses.proofs.CourseLemmas.{each_stops}
use Rattle.mm_base.specs.declared.volume.File.{File}
use Rattle.mm_base.specs.declared.volume.Section.{Section}
use Rattle.mm_base.specs.declared.volume.SectionFault.{SectionFault}
use Rattle.volume_reader.specs.Sections.{body_of, has_section, section_at, section_behind, HoldsSection, SectionsLead, AreSections, HasRefusal, HasSections, HasRefusedSection, Walk, walk_of, given_next, walked_on}
use Rattle.volume_reader.specs.SectionLaws.{WalksOver}
use Rattle.volume_reader.proofs.SectionLemmas.{section_moves}
use Rattle.volume_reader.proofs.SectionWalkLemmas.{Gives, GivesSection, GivesNone, GivesFault, gives, over_end, over_refused}

-- ---- either

-- where sections lead to: too few bytes, or what is refused
abbrev EndsOrRefuses : List ℕ → ℕ → Type 0
EndsOrRefuses body at = (nat_le (at + 4) (length body) ≡ false) ⊎ ((nat_le (at + 4) (length body) ≡ true) × (has_section body at ≡ false))

abbrev Halted : List ℕ → ℕ → ℕ → Type 0
Halted body begin at = StopsAfter (HoldsSection body begin) (λ place section. section_behind body place) (EndsOrRefuses body) at

halted : (body : List ℕ) (begin at : ℕ) → Halted body begin at
halted body begin =
    each_stops (HoldsSection body begin) (λ place section. section_behind body place) (EndsOrRefuses body) (λ place. length body - place)
    (λ place. by_tests place (nat_le (place + 4) (length body)) (has_section body place) refl refl) (λ place section holds.
    let moves = section_moves body place (record { room = holds.room; section = holds.whole }) in
    omega (arith, moves.0, moves.1))
  where
    by_tests : (at : ℕ) (room section : Bool) → nat_le (at + 4) (length body) ≡ room → has_section body at ≡ section
        → EndsOrRefuses body at ⊎ ((section : Section) × HoldsSection body begin at section)
    by_tests at false section a b = inl (inl a)
    by_tests at true false a b = inl (inr (a, b))
    by_tests at true true a b = inr (section_at body begin at, record { room = a; whole = b; is = refl })

pub either : (body : List ℕ) (begin : ℕ) → ((sections : List Section) × AreSections body begin sections) ⊎ ((fault : SectionFault) × HasRefusal body begin fault)
either body begin = by_halt (halted body begin 0)
  where
    by_end : (there : Halted body begin 0) → EndsOrRefuses body there.end
        → ((sections : List Section) × AreSections body begin sections) ⊎ ((fault : SectionFault) × HasRefusal body begin fault)
    by_end there (inl ends) = inl (there.items, record { end = there.end; reached = record { leads = there.leads }; ends = ends })
    by_end there (inr bad) =
        inr (
          record { at = begin + there.end },
          record {
            sections = there.items;
            at = there.end;
            refused = record { reached = record { leads = there.leads }; there = bad.0; bad = bad.1 };
            place = refl;
          },
        )

    by_halt : Halted body begin 0 → ((sections : List Section) × AreSections body begin sections) ⊎ ((fault : SectionFault) × HasRefusal body begin fault)
    by_halt there = by_end there there.stops

-- ---- by a walk

-- where a walk over sections comes to, and what it gives there
record ComesTo (body : List ℕ) (begin place : ℕ) (sections : List Section) (last : Result (Option Section) SectionFault) : Type 0 where
  pub end : ℕ
  pub leads : SectionsLead body begin place sections end
  pub gives : given_next (record { body = body; begin = begin; place = end }) ≡ last

comes_more : (body : List ℕ) (begin place : ℕ) (section : Section) (sections : List Section) (last : Result (Option Section) SectionFault)
    → given_next (record { body = body; begin = begin; place = place }) ≡ Ok (Some section)
    → (walked_on (record { body = body; begin = begin; place = place }) ≡ record { body = body; begin = begin; place = section_behind body place } → ComesTo body begin (section_behind body place) sections last)
    → ComesTo body begin place (section ∷ sections) last
comes_more body begin place section sections last given rest = by_gift (gives (record { body = body; begin = begin; place = place }))
  where
    by_gift : Gives (record { body = body; begin = begin; place = place }) → ComesTo body begin place (section ∷ sections) last
    by_gift (GivesSection stands gift on) =
        let more = rest on in
        let e : Ok (Some section) ≡ Ok (Some (section_at body begin place)) = sym given ∙ gift in
        let same : section ≡ section_at body begin place = cc in
        record { end = more.end; leads = (record { room = stands.room; whole = stands.section; is = same }, more.leads); gives = more.gives }
    by_gift (GivesNone left gift) = let e : Ok None ≡ Ok (Some section) = sym gift ∙ given in cc
    by_gift (GivesFault left bad gift) = let fault : SectionFault = record { at = begin + place } in let e : Err fault ≡ Ok (Some section) = sym gift ∙ given in cc

comes_to : (body : List ℕ) (begin place : ℕ) (sections : List Section) (last : Result (Option Section) SectionFault)
    → WalksOver (record { body = body; begin = begin; place = place }) sections last → ComesTo body begin place sections last
comes_to body begin place [] last walks = record { end = place; leads = refl; gives = walks }
comes_to body begin place (section ∷ sections) last walks =
    let P : Walk → Type 0 = λ walk. WalksOver walk sections last in
    comes_more body begin place section sections last walks.0 (λ on. comes_to body begin (section_behind body place) sections last (subst P on walks.1))

walks_over : (body : List ℕ) (begin place : ℕ) (sections : List Section) (end : ℕ) (last : Result (Option Section) SectionFault)
    → SectionsLead body begin place sections end → given_next (record { body = body; begin = begin; place = end }) ≡ last
    → WalksOver (record { body = body; begin = begin; place = place }) sections last
walks_over body begin place [] end last leads gives =
    let P : ℕ → Type 0 = λ place. given_next (record { body = body; begin = begin; place = place }) ≡ last in
    subst P (sym leads) gives
walks_over body begin place (section ∷ sections) end last leads gives =
    let room = leads.0.room in
    let stands = leads.0.whole in
    let P : Walk → Type 0 = λ walk. WalksOver walk sections last in
    let on : walked_on (record { body = body; begin = begin; place = place }) ≡ record { body = body; begin = begin; place = section_behind body place } = rw (room, stands) in
    let given : given_next (record { body = body; begin = begin; place = place }) ≡ Ok (Some (section_at body begin place)) = rw (room, stands) in
    (given ∙ ap (λ s. Ok (Some s)) (sym leads.0.is), subst P (sym on) (walks_over body begin (section_behind body place) sections end last leads.1 gives))

pub walk_gives : (bytes : List ℕ) (file : File) (sections : List Section) → WalksOver (walk_of bytes file) sections (Ok None) ↔ HasSections bytes file sections
walk_gives bytes file sections = (
  λ walks.
      let there = comes_to (body_of bytes file) file.body_at 0 sections (Ok None) walks in
      over_end (record { body = body_of bytes file; begin = file.body_at; place = there.end }) sections (record { leads = there.leads }) there.gives,
  λ are.
      let ends = are.ends in
      let none : given_next (record { body = body_of bytes file; begin = file.body_at; place = are.end }) ≡ Ok None = rw ends in
      walks_over (body_of bytes file) file.body_at 0 sections are.end (Ok None) are.reached.leads none,
)

pub walk_meets : (bytes : List ℕ) (file : File) (fault : SectionFault)
    → ((sections : List Section) × WalksOver (walk_of bytes file) sections (Err fault)) ↔ HasRefusedSection bytes file fault
walk_meets bytes file fault = (
  λ (sections, walks).
      let there = comes_to (body_of bytes file) file.body_at 0 sections (Err fault) walks in
      let r = over_refused (record { body = body_of bytes file; begin = file.body_at; place = there.end }) sections fault (record { leads = there.leads }) there.gives in
      record { sections = sections; at = there.end; refused = r.0; place = r.1 },
  λ has.
      let room = has.refused.there in
      let bad = has.refused.bad in
      let is : Err (record { at = file.body_at + has.at }) ≡ Err fault = λ i. Err (record { at = sym has.place i }) in
      let given : given_next (record { body = body_of bytes file; begin = file.body_at; place = has.at }) ≡ Err (record { at = file.body_at + has.at }) = rw (room, bad) in
      (has.sections, walks_over (body_of bytes file) file.body_at 0 has.sections has.at (Err fault) has.refused.reached.leads (given ∙ is)),
)
