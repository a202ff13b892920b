-- What sections tell, as a walk takes them in.
use Rattle.std.proofs.Common.{◌≡◌, ℕ, Bool, if◌then◌else◌, ◌==◌, ◌||◌, List, [], ◌∷◌, ◌++◌, Option, Some, None, Result, Ok, Err, IfOk, IfErr, refl, sym, ap, ◌∙◌, subst}
use Rattle.std.proofs.Math.Bool.{or-false}
use Rattle.std.specs.List.{list_any, find}
use Rattle.std.specs.Option.{option_or}
use Rattle.std.proofs.lemmas.List.Folds.{list_any-append, find-append}
use Rattle.courses.proofs.VerdictLemmas.{found, first}
use Rattle.mm_base.specs.declared.volume.File.{File}
use Rattle.mm_base.specs.declared.volume.Section.{Section}
use Rattle.mm_base.specs.declared.volume.SectionFault.{SectionFault}
use Rattle.volume_reader.specs.declared.section_contents.Contents.{Contents}
use Rattle.volume_reader.specs.Sections.{body_of, AreSections, HasSections, HasRefusedSection, Walk, given_next, walked_on}
use Rattle.volume_reader.specs.Contents.{contents_of, HasContents}
use Rattle.volume_reader.proofs.SectionLemmas.{one_list, list_or_refusal, one_refusal}
use Rattle.volume_reader.proofs.SectionWalkLemmas.{Over, over_more, over_end}

-- ---- one section more

any_more : (kind : ℕ) (sections : List Section) (section : Section) (others now : Bool)
    → others ≡ list_any (λ (s : Section). s.kind == kind) sections → now ≡ (others || section.kind == kind)
    → now ≡ list_any (λ (s : Section). s.kind == kind) (sections ++ section ∷ [])
any_more kind sections section others now before is =
    is ∙ ap (λ b. b || section.kind == kind) before
    ∙ ap (λ b. list_any (λ (s : Section). s.kind == kind) sections || b) (sym (or-false (section.kind == kind)))
    ∙ sym (list_any-append (λ (s : Section). s.kind == kind) sections (section ∷ []))

pub first_more : (kind : ℕ) (sections : List Section) (section : Section) (others now : Option Section)
    → others ≡ find (λ (s : Section). s.kind == kind) sections → now ≡ option_or others (if section.kind == kind then Some section else None)
    → now ≡ find (λ (s : Section). s.kind == kind) (sections ++ section ∷ [])
first_more kind sections section others now before is =
    is ∙ ap (λ o. option_or o (if section.kind == kind then Some section else None)) before
    ∙ sym (find-append (λ (s : Section). s.kind == kind) sections (section ∷ []))

pub with_more : (sections : List Section) (section : Section) (old : Contents) (compressed guid_defined : Bool) (image depex : Option Section)
    → old ≡ contents_of sections
    → compressed ≡ (old.compressed || section.kind == 0x01)
    → guid_defined ≡ (old.guid_defined || section.kind == 0x02)
    → image ≡ option_or old.image (if section.kind == 0x10 then Some section else None)
    → depex ≡ option_or old.depex (if section.kind == 0x1c then Some section else None)
    → record { compressed = compressed; guid_defined = guid_defined; image = image; depex = depex } ≡ contents_of (sections ++ section ∷ [])
with_more sections section old compressed guid_defined image depex before c g i d =
    let cs = any_more 0x01 sections section old.compressed compressed (ap (λ (told : Contents). told.compressed) before) c in
    let gs = any_more 0x02 sections section old.guid_defined guid_defined (ap (λ (told : Contents). told.guid_defined) before) g in
    let is = first_more 0x10 sections section old.image image (ap (λ (told : Contents). told.image) before) i in
    let ds = first_more 0x1c sections section old.depex depex (ap (λ (told : Contents). told.depex) before) d in
    λ t. record { compressed = cs t; guid_defined = gs t; image = is t; depex = ds t }

-- ---- what a walk has taken in

pub record TakenIn (walk : Walk) (told : Contents) : Type 0 where
  pub sections : List Section
  pub over : Over walk sections
  pub are : told ≡ contents_of sections

pub taken_none : (walk : Walk) (told : Contents) → walk.place ≡ 0 → told ≡ contents_of [] → TakenIn walk told
taken_none walk told first is = record { sections = []; over = record { leads = sym first }; are = is }

pub taken_more : (walk next : Walk) (section : Section) (told now : Contents) → TakenIn walk told → given_next walk ≡ Ok (Some section) → next ≡ walked_on walk
    → ((sections : List Section) → told ≡ contents_of sections → now ≡ contents_of (sections ++ section ∷ [])) → TakenIn next now
taken_more walk next section told now taken given on more = record {
  sections = taken.sections ++ section ∷ [];
  over = over_more walk next taken.sections section taken.over given on;
  are = more taken.sections taken.are;
}

pub taken_end : (bytes : List ℕ) (file : File) (walk : Walk) (told : Contents) → walk.body ≡ body_of bytes file → walk.begin ≡ file.body_at → TakenIn walk told
    → given_next walk ≡ Ok None → HasContents bytes file told
taken_end bytes file walk told body begin taken given =
    let P : List ℕ → Type 0 = λ body. AreSections body walk.begin taken.sections in
    let Q : ℕ → Type 0 = λ begin. AreSections (body_of bytes file) begin taken.sections in
    record { sections = taken.sections; has = subst Q begin (subst P body (over_end walk taken.sections taken.over given)); are = taken.are }

-- ---- what is answered is what the sections tell, or the fault behind some

module _ (bytes : List ℕ) (file : File) where
  never_told_and_refused : (told : Contents) (fault : SectionFault) → HasContents bytes file told → HasRefusedSection bytes file fault → ⊥
  never_told_and_refused told fault has refused = list_or_refusal (body_of bytes file) file.body_at has.sections fault has.has refused

  one_told : (one other : Contents) → HasContents bytes file one → HasContents bytes file other → one ≡ other
  one_told one other a b = a.are ∙ ap contents_of (one_list (body_of bytes file) file.body_at a.sections b.sections a.has b.has) ∙ sym b.are

  module _ (result : Result Contents SectionFault) (ok : IfOk result (HasContents bytes file)) (err : IfErr result (HasRefusedSection bytes file)) where
    pub told_found : (sections : List Section) → HasSections bytes file sections → result ≡ Ok (contents_of sections)
    told_found sections has =
        found (HasContents bytes file) (HasRefusedSection bytes file) never_told_and_refused one_told result ok err (contents_of sections)
        (record { sections = sections; has = has; are = refl })

    pub told_first : (fault : SectionFault) → HasRefusedSection bytes file fault → result ≡ Err fault
    told_first =
        first (HasContents bytes file) (HasRefusedSection bytes file) never_told_and_refused (one_refusal (body_of bytes file) file.body_at) result ok err
