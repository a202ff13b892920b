-- The first section of a type, as a walk takes them in.
use Rattle.std.proofs.Common.{◌≡◌, ℕ, Bool, true, false, if◌then◌else◌, ◌==◌, ◌||◌, List, [], ◌∷◌, ◌++◌, Option, Some, None, Result, Ok, Err, IfOk, IfErr, refl, sym, ap, ◌∙◌, subst}
use Rattle.std.specs.List.{list_any, find}
use Rattle.std.specs.Option.{option_or, is_some}
use Rattle.courses.proofs.VerdictLemmas.{found, first}
use Rattle.mm_base.specs.declared.volume.File.{File}
use Rattle.mm_base.specs.declared.volume.Section.{Section}
use Rattle.mm_base.specs.declared.volume.SectionFault.{SectionFault}
use Rattle.volume_reader.specs.Sections.{body_of, AreSections, HasSections, HasRefusedSection, Walk, given_next, walked_on}
use Rattle.volume_reader.specs.Search.{first_section, is_any_section, HasFirstSection}
use Rattle.volume_reader.proofs.ContentsLemmas.{first_more}
use Rattle.volume_reader.proofs.SectionLemmas.{one_list, list_or_refusal, one_refusal}
use Rattle.volume_reader.proofs.SectionWalkLemmas.{Over, over_more, over_end}

-- what a walk has found so far
pub record Sought (walk : Walk) (kind : ℕ) (so_far : Option Section) : Type 0 where
  pub sections : List Section
  pub over : Over walk sections
  pub is : so_far ≡ first_section kind sections

pub sought_none : (walk : Walk) (kind : ℕ) → walk.place ≡ 0 → Sought walk kind None
sought_none walk kind at_first = record { sections = []; over = record { leads = sym at_first }; is = refl }

pub sought_more : (walk next : Walk) (kind : ℕ) (section : Section) (so_far now : Option Section) → Sought walk kind so_far
    → given_next walk ≡ Ok (Some section) → next ≡ walked_on walk
    → now ≡ option_or so_far (if section.kind == kind then Some section else None) → Sought next kind now
sought_more walk next kind section so_far now sought given on is = record {
  sections = sought.sections ++ section ∷ [];
  over = over_more walk next sought.sections section sought.over given on;
  is = first_more kind sought.sections section so_far now sought.is is;
}

pub sought_end : (bytes : List ℕ) (file : File) (walk : Walk) (kind : ℕ) (so_far : Option Section) → walk.body ≡ body_of bytes file
    → walk.begin ≡ file.body_at → Sought walk kind so_far → given_next walk ≡ Ok None → HasFirstSection bytes file kind so_far
sought_end bytes file walk kind so_far body begin sought given =
    let P : List ℕ → Type 0 = λ body. AreSections body walk.begin sought.sections in
    let Q : ℕ → Type 0 = λ begin. AreSections (body_of bytes file) begin sought.sections in
    record { sections = sought.sections; has = subst Q begin (subst P body (over_end walk sought.sections sought.over given)); is = sought.is }

-- ---- what is answered is the first section of the type, or the fault

module _ (bytes : List ℕ) (file : File) (kind : ℕ) where
  never_found_and_refused : (section : Option Section) (fault : SectionFault) → HasFirstSection bytes file kind section
      → HasRefusedSection bytes file fault → ⊥
  never_found_and_refused section fault has refused =
      list_or_refusal (body_of bytes file) file.body_at has.sections fault has.has refused

  one_found : (one other : Option Section) → HasFirstSection bytes file kind one → HasFirstSection bytes file kind other → one ≡ other
  one_found one other a b =
      a.is ∙ ap (first_section kind) (one_list (body_of bytes file) file.body_at a.sections b.sections a.has b.has) ∙ sym b.is

  module _ (result : Result (Option Section) SectionFault) (ok : IfOk result (HasFirstSection bytes file kind))
      (err : IfErr result (HasRefusedSection bytes file)) where
    pub sought_found : (sections : List Section) → HasSections bytes file sections → result ≡ Ok (first_section kind sections)
    sought_found sections has =
        found (HasFirstSection bytes file kind) (HasRefusedSection bytes file) never_found_and_refused one_found result ok err (first_section kind sections)
        (record { sections = sections; has = has; is = refl })

    pub sought_first : (fault : SectionFault) → HasRefusedSection bytes file fault → result ≡ Err fault
    sought_first =
        first (HasFirstSection bytes file kind) (HasRefusedSection bytes file) never_found_and_refused (one_refusal (body_of bytes file) file.body_at) result ok err

-- ---- whether there is one

some_or_any : (section : Section) (found : Option Section) (test any : Bool) → is_some found ≡ any
    → is_some (if test then Some section else found) ≡ (test || any)
some_or_any section found true any is = refl
some_or_any section found false any is = is

is_some-find : (p : Section → Bool) (sections : List Section) → is_some (find p sections) ≡ list_any p sections
is_some-find p [] = refl
is_some-find p (section ∷ sections) = some_or_any section (find p sections) (p section) (list_any p sections) (is_some-find p sections)

-- this tells whether a file has a section of a type
pub record IsAny (bytes : List ℕ) (file : File) (kind : ℕ) (test : Bool) : Type 0 where
  pub sections : List Section
  pub has : HasSections bytes file sections
  pub is : test ≡ is_any_section kind sections

pub any_is : (bytes : List ℕ) (file : File) (kind : ℕ) (section : Option Section) (test : Bool) → HasFirstSection bytes file kind section
    → test ≡ is_some section → IsAny bytes file kind test
any_is bytes file kind section test has is = record {
  sections = has.sections;
  has = has.has;
  is = is ∙ ap (λ (o : Option Section). is_some o) has.is ∙ is_some-find (λ (s : Section). s.kind == kind) has.sections;
}

module _ (bytes : List ℕ) (file : File) (kind : ℕ) where
  never_any_and_refused : (test : Bool) (fault : SectionFault) → IsAny bytes file kind test → HasRefusedSection bytes file fault → ⊥
  never_any_and_refused test fault has refused =
      list_or_refusal (body_of bytes file) file.body_at has.sections fault has.has refused

  one_any : (one other : Bool) → IsAny bytes file kind one → IsAny bytes file kind other → one ≡ other
  one_any one other a b =
      a.is ∙ ap (is_any_section kind) (one_list (body_of bytes file) file.body_at a.sections b.sections a.has b.has) ∙ sym b.is

  module _ (result : Result Bool SectionFault) (ok : IfOk result (IsAny bytes file kind))
      (err : IfErr result (HasRefusedSection bytes file)) where
    pub any_found : (sections : List Section) → HasSections bytes file sections → result ≡ Ok (is_any_section kind sections)
    any_found sections has =
        found (IsAny bytes file kind) (HasRefusedSection bytes file) never_any_and_refused one_any result ok err (is_any_section kind sections)
        (record { sections = sections; has = has; is = refl })

    pub any_first : (fault : SectionFault) → HasRefusedSection bytes file fault → result ≡ Err fault
    any_first =
        first (IsAny bytes file kind) (HasRefusedSection bytes file) never_any_and_refused (one_refusal (body_of bytes file) file.body_at) result ok err
