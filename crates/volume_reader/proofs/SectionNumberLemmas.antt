-- The sections of a body by their numbers.
use Rattle.std.proofs.Common.{◌≡◌, ◌⊎◌, inl, inr, ◌↔◌, ℕ, ◌+◌, ◌<◌, ◌≤◌, true, false, nat_le, List, [], ◌∷◌, ◌++◌, length, get_or, Option, Some, None, MatchOption, Result, Ok, Err, IfOk, IfErr, refl, sym, ap, ◌∙◌, subst, arith, length-append}
use Rattle.std.specs.List.{slice_get}
use Rattle.std.specs.Option.{is_some}
use Rattle.std.proofs.lemmas.Option.{slice_get_within, slice_get-get_or}
use Rattle.std.proofs.lemmas.Bool.{cases_lt}
use Rattle.mm_base.specs.declared.volume.Section.{Section}
use Rattle.mm_base.specs.declared.volume.SectionFault.{SectionFault}
use Rattle.volume_reader.specs.Sections.{section_at, section_behind, SectionsLead, AreSections, IsRefusedBehind, Walk, given_next, walked_on, HasSection, HasAtMost, HasSectionFault}
use Rattle.volume_reader.proofs.SectionLemmas.{Stop, ends_stop, refused_stop, one_course, one_list, same_at, stands_behind, leads-section}
use Rattle.volume_reader.proofs.SectionWalkLemmas.{Gives, GivesSection, GivesNone, GivesFault, gives, Over, over_more, over_end, over_refused}

-- ---- what a body has by a number is one thing

one_section : (body : List ℕ) (begin index : ℕ) (s t : Section) → HasSection body begin index s → HasSection body begin index t → s ≡ t
one_section body begin index s t a b = same_at body begin 0 a.sections b.sections a.to b.to index s t a.reached.leads b.reached.leads a.there b.there

section_or_end : (body : List ℕ) (begin index : ℕ) (s : Section) → HasSection body begin index s → HasAtMost body begin index → ⊥
section_or_end body begin index s a b =
    let within = slice_get_within a.sections index s a.there in
    (ends_stop body begin b.sections b.are).none
    (stands_behind body begin 0 a.sections b.sections a.to b.are.end a.reached.leads b.are.reached.leads (omega (arith, b.few)))

section_or_fault : (body : List ℕ) (begin index : ℕ) (s : Section) (fault : SectionFault) → HasSection body begin index s → HasSectionFault body begin index fault → ⊥
section_or_fault body begin index s fault a b =
    let within = slice_get_within a.sections index s a.there in
    (refused_stop body begin b.sections b.at b.refused).none
    (stands_behind body begin 0 a.sections b.sections a.to b.at a.reached.leads b.refused.reached.leads (omega (arith, b.few)))

end_or_fault : (body : List ℕ) (begin index : ℕ) (fault : SectionFault) → HasAtMost body begin index → HasSectionFault body begin index fault → ⊥
end_or_fault body begin index fault a b =
    let same = one_course body begin 0 a.sections b.sections a.are.end b.at a.are.reached.leads (ends_stop body begin a.sections a.are)
    b.refused.reached.leads (refused_stop body begin b.sections b.at b.refused) in
    let e : false ≡ true = sym a.are.ends ∙ ap (λ at. nat_le (at + 4) (length body)) same.ends ∙ b.refused.there in
    cc

one_fault : (body : List ℕ) (begin index : ℕ) (one other : SectionFault) → HasSectionFault body begin index one → HasSectionFault body begin index other → one ≡ other
one_fault body begin index one other a b =
    let same = one_course body begin 0 a.sections b.sections a.at b.at a.refused.reached.leads (refused_stop body begin a.sections a.at a.refused)
    b.refused.reached.leads (refused_stop body begin b.sections b.at b.refused) in
    let places : one.at ≡ other.at = a.place ∙ ap (λ at. begin + at) same.ends ∙ sym b.place in
    λ i. record { at = places i }

-- ---- what is answered

-- an answer is what the body has by this number
pub record Answered (body : List ℕ) (begin index : ℕ) (result : Result (Option Section) SectionFault) : Type 0 where
  pub ok : IfOk result (λ given. MatchOption given (HasAtMost body begin index) (HasSection body begin index))
  pub err : IfErr result (HasSectionFault body begin index)

pub some_exactly : (body : List ℕ) (begin index : ℕ) (result : Result (Option Section) SectionFault) → Answered body begin index result
    → (section : Section) → (result ≡ Ok (Some section)) ↔ HasSection body begin index section
some_exactly body begin index (Ok (Some other)) answered section = (
  λ e. let same : other ≡ section = cc in subst (HasSection body begin index) same answered.ok,
  λ has. ap (λ s. Ok (Some s)) (one_section body begin index other section answered.ok has),
)
some_exactly body begin index (Ok None) answered section =
    (λ e. cc, λ has. absurd (section_or_end body begin index section has answered.ok))
some_exactly body begin index (Err fault) answered section =
    (λ e. cc, λ has. absurd (section_or_fault body begin index section fault has answered.err))

pub none_exactly : (body : List ℕ) (begin index : ℕ) (result : Result (Option Section) SectionFault) → Answered body begin index result
    → (result ≡ Ok None) ↔ HasAtMost body begin index
none_exactly body begin index (Ok (Some other)) answered =
    (λ e. cc, λ has. absurd (section_or_end body begin index other answered.ok has))
none_exactly body begin index (Ok None) answered = (λ e. answered.ok, λ has. refl)
none_exactly body begin index (Err fault) answered =
    (λ e. cc, λ has. absurd (end_or_fault body begin index fault has answered.err))

pub fault_exactly : (body : List ℕ) (begin index : ℕ) (result : Result (Option Section) SectionFault) → Answered body begin index result
    → (fault : SectionFault) → (result ≡ Err fault) ↔ HasSectionFault body begin index fault
fault_exactly body begin index (Ok (Some other)) answered fault =
    (λ e. cc, λ has. absurd (section_or_fault body begin index other fault answered.ok has))
fault_exactly body begin index (Ok None) answered fault =
    (λ e. cc, λ has. absurd (end_or_fault body begin index fault answered.ok has))
fault_exactly body begin index (Err other) answered fault = (
  λ e. let same : other ≡ fault = cc in subst (HasSectionFault body begin index) same answered.err,
  λ has. ap Err (one_fault body begin index other fault answered.err has),
)

-- ---- how a walk comes to it

-- a walk has come over so many sections
pub record Skipped (walk : Walk) (count : ℕ) : Type 0 where
  pub sections : List Section
  pub over : Over walk sections
  pub many : length sections ≡ count

-- where something was given, it has come over one more
pub skipped_next : (walk : Walk) (count : ℕ) (given : Option Section) → Skipped walk count → given_next walk ≡ Ok given → is_some given ≡ true → Skipped (walked_on walk) (count + 1)
skipped_next walk count (Some section) skipped given there = record {
  sections = skipped.sections ++ section ∷ [];
  over = over_more walk (walked_on walk) skipped.sections section skipped.over given refl;
  many = omega (arith, skipped.many, length-append skipped.sections (section ∷ []));
}
skipped_next walk count None skipped given there = let e : false ≡ true = there in cc

-- what ends a walk answers each number that it has come to, and those behind it
ends_walk : (walk : Walk) (count index : ℕ) → Skipped walk count → count ≤ index → given_next walk ≡ Ok None → HasAtMost walk.body walk.begin index
ends_walk walk count index skipped near given =
    record { sections = skipped.sections; are = over_end walk skipped.sections skipped.over given; few = omega (arith, skipped.many) }

refuses_walk : (walk : Walk) (count index : ℕ) (fault : SectionFault) → Skipped walk count → count ≤ index → given_next walk ≡ Err fault
    → HasSectionFault walk.body walk.begin index fault
refuses_walk walk count index fault skipped near given =
    let r = over_refused walk skipped.sections fault skipped.over given in
    record { sections = skipped.sections; at = walk.place; refused = r.0; place = r.1; few = omega (arith, skipped.many) }

-- the element behind others
last_of : (sections : List Section) (section : Section) → slice_get (sections ++ section ∷ []) (length sections) ≡ Some section
last_of [] section = refl
last_of (other ∷ sections) section = last_of sections section

-- the answer at the end of a walk over as many sections as asked for
pub answers : (walk : Walk) (index : ℕ) → Skipped walk index → Answered walk.body walk.begin index (given_next walk)
answers walk index skipped = by_gift (gives walk)
  where
    by_gift : Gives walk → Answered walk.body walk.begin index (given_next walk)
    by_gift (GivesSection stands is on) =
        let P : Result (Option Section) SectionFault → Type 0 = λ result. Answered walk.body walk.begin index result in
        let Q : ℕ → Type 0 = λ n. slice_get (skipped.sections ++ section_at walk.body walk.begin walk.place ∷ []) n ≡ Some (section_at walk.body walk.begin walk.place) in
        subst P (sym is) (record {
          ok = record {
            sections = skipped.sections ++ section_at walk.body walk.begin walk.place ∷ [];
            to = section_behind walk.body walk.place;
            reached = record { leads = leads-section walk.body walk.begin 0 skipped.sections walk.place skipped.over.leads stands };
            there = subst Q skipped.many (last_of skipped.sections (section_at walk.body walk.begin walk.place));
          };
          err = tt;
        })
    by_gift (GivesNone left is) =
        let P : Result (Option Section) SectionFault → Type 0 = λ result. Answered walk.body walk.begin index result in
        subst P (sym is) (record { ok = ends_walk walk index index skipped (omega arith) is; err = tt })
    by_gift (GivesFault left bad is) =
        let P : Result (Option Section) SectionFault → Type 0 = λ result. Answered walk.body walk.begin index result in
        subst P (sym is) (record { ok = tt; err = refuses_walk walk index index _ skipped (omega arith) is })

-- the answers in the words of the body that is walked over
pub answered_end : (walk : Walk) (body : List ℕ) (begin before index : ℕ) (result : Result (Option Section) SectionFault)
    → Skipped walk before → walk.body ≡ body → walk.begin ≡ begin → before ≡ index → result ≡ given_next walk → Answered body begin index result
answered_end walk body begin before index result skipped same start many given =
    let P : List ℕ → Type 0 = λ body. Answered body walk.begin before (given_next walk) in
    let Q : ℕ → Type 0 = λ begin. Answered body begin before (given_next walk) in
    let R : ℕ → Type 0 = λ index. Answered body begin index (given_next walk) in
    let S : Result (Option Section) SectionFault → Type 0 = λ result. Answered body begin index result in
    subst S (sym given) (subst R many (subst Q start (subst P same (answers walk before skipped))))

pub answered_none : (walk : Walk) (body : List ℕ) (begin before index : ℕ) → Skipped walk before → walk.body ≡ body → walk.begin ≡ begin → before ≤ index
    → given_next walk ≡ Ok None → Answered body begin index (Ok None)
answered_none walk body begin before index skipped same start near given =
    let P : List ℕ → Type 0 = λ body. HasAtMost body walk.begin index in
    let Q : ℕ → Type 0 = λ begin. HasAtMost body begin index in
    record { ok = subst Q start (subst P same (ends_walk walk before index skipped near given)); err = tt }

pub answered_fault : (walk : Walk) (body : List ℕ) (begin before index : ℕ) (fault : SectionFault) (result : Result (Option Section) SectionFault)
    → Skipped walk before → walk.body ≡ body → walk.begin ≡ begin → before ≤ index
    → given_next walk ≡ Err fault → result ≡ Err fault → Answered body begin index result
answered_fault walk body begin before index fault result skipped same start near given is =
    let P : List ℕ → Type 0 = λ body. HasSectionFault body walk.begin index fault in
    let Q : ℕ → Type 0 = λ begin. HasSectionFault body begin index fault in
    let S : Result (Option Section) SectionFault → Type 0 = λ result. Answered body begin index result in
    subst S (sym is) (record { ok = tt; err = subst Q start (subst P same (refuses_walk walk before index fault skipped near given)) })

-- ---- the sections by their numbers are those of the list

numbered : (body : List ℕ) (begin index to : ℕ) (sections : List Section) → SectionsLead body begin 0 sections to → Stop body to
    → (section : Section) → HasSection body begin index section ↔ (slice_get sections index ≡ Some section)
numbered body begin index to sections leads stop section =
    (λ has. by_place has (cases_lt index (length sections)), λ there. record { sections = sections; to = to; reached = record { leads = leads }; there = there })
  where
    by_place : HasSection body begin index section → (index < length sections) ⊎ (length sections ≤ index) → slice_get sections index ≡ Some section
    by_place has (inl within) =
        let there = slice_get-get_or sections index section within in
        there ∙ ap Some (same_at body begin 0 sections has.sections to has.to index (get_or sections index section) section leads has.reached.leads there has.there)
    by_place has (inr past) =
        let within = slice_get_within has.sections index section has.there in
        absurd (stop.none (stands_behind body begin 0 has.sections sections has.to to has.reached.leads leads (omega arith)))

pub numbers_list : (body : List ℕ) (begin index : ℕ) (sections : List Section) → AreSections body begin sections
    → ((section : Section) → HasSection body begin index section ↔ (slice_get sections index ≡ Some section)) × (HasAtMost body begin index ↔ (length sections ≤ index))
numbers_list body begin index sections are = (
  numbered body begin index are.end sections are.reached.leads (ends_stop body begin sections are),
  (
    λ most. let same = ap (λ (all : List Section). length all) (one_list body begin most.sections sections most.are are) in omega (arith, most.few),
    λ few. record { sections = sections; are = are; few = few },
  ),
)

pub numbers_refusal : (body : List ℕ) (begin index at : ℕ) (sections : List Section) → IsRefusedBehind body begin sections at
    → ((section : Section) → HasSection body begin index section ↔ (slice_get sections index ≡ Some section))
    × ((fault : SectionFault) → HasSectionFault body begin index fault ↔ ((length sections ≤ index) × (fault.at ≡ begin + at)))
numbers_refusal body begin index at sections refused = (
  numbered body begin index at sections refused.reached.leads (refused_stop body begin sections at refused),
  λ fault. (
    λ has.
        let same = one_course body begin 0 has.sections sections has.at at has.refused.reached.leads (refused_stop body begin has.sections has.at has.refused)
        refused.reached.leads (refused_stop body begin sections at refused) in
        let lengths = ap (λ (all : List Section). length all) same.items in
        (omega (arith, has.few), has.place ∙ ap (λ at. begin + at) same.ends),
    λ past. record { sections = sections; at = at; refused = refused; place = past.1; few = past.0 },
  ),
)
