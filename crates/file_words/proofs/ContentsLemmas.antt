-- The sections that a file's contents name lie in the bytes.
use Rattle.std.proofs.Common.{◌≡◌, ℕ, ◌+◌, ◌≤◌, Bool, true, false, List, [], ◌∷◌, length, find, Option, Some, None, IfSome}
use Rattle.std.proofs.Common.{if◌then◌else◌, sym, subst, arith, length-drop}
use Rattle.std.proofs.lemmas.List.{length-take-le}
use Rattle.std.proofs.lemmas.Bool.Decides.{nat_tests}
use Rattle.mm_base.specs.declared.volume.File.{File}
use Rattle.mm_base.specs.declared.volume.Section.{Section}
use Rattle.volume_reader.specs.Contents.{HasContents}
use Rattle.volume_reader.specs.Search.{HasFirstSection}
use Rattle.volume_reader.specs.Sections.{body_of, has_section, section_at, section_behind, SectionsLead}
use Rattle.volume_reader.specs.declared.section_contents.Contents.{Contents}
use Rattle.file_words.specs.JudgingInside.{LieIn}

-- a section ends at this place, or before it
record Ends (end : ℕ) (section : Section) : Type 0 where
  pub within : section.at + section.length ≤ end

chosen : (end : ℕ) (test : Bool) (section : Section) (others : Option Section) → Ends end section → IfSome others (Ends end)
    → IfSome (if test then Some section else others) (Ends end)
chosen end true section others this that = this
chosen end false section others this that = that

module _ (body : List ℕ) (begin : ℕ) where
  section_ends : (at : ℕ) → has_section body at ≡ true → Ends (begin + length body) (section_at body begin at)
  section_ends at has = record { within = grind (arith, nat_tests) }

  found_ends : (p : Section → Bool) (at : ℕ) (sections : List Section) (to : ℕ) → SectionsLead body begin at sections to
      → IfSome (find p sections) (Ends (begin + length body))
  found_ends p at [] to leads = tt
  found_ends p at (section ∷ sections) to leads =
      chosen (begin + length body) (p section) section (find p sections)
      (subst (Ends (begin + length body)) (sym leads.0.is) (section_ends at leads.0.whole))
      (found_ends p (section_behind body at) sections to leads.1)

ends_before : (end most : ℕ) (o : Option Section) → end ≤ most → IfSome o (Ends end)
    → IfSome o (λ section. section.at + section.length ≤ most)
ends_before end most None h ends = tt
ends_before end most (Some section) h ends = omega (arith, ends.within)

-- the first section of a type lies in the bytes
pub first_section_lies : (bytes : List ℕ) (file : File) (kind : ℕ) (found : Option Section) → file.body_at + file.body ≤ length bytes
    → HasFirstSection bytes file kind found → IfSome found (λ section. section.at + section.length ≤ length bytes)
first_section_lies bytes file kind found within has =
    let body : List ℕ = body_of bytes file in
    let long : length body ≡ file.body = length-take-le file.body _ (omega (arith, length-drop file.body_at bytes)) in
    let P : Option Section → Type 0 = λ found. IfSome found (λ section. section.at + section.length ≤ length bytes) in
    subst P (sym has.is)
    (ends_before (file.body_at + length body) (length bytes) _ (omega (arith, long)) (found_ends body file.body_at _ 0 has.sections has.has.end has.has.reached.leads))

pub contents_lie : (bytes : List ℕ) (file : File) (contents : Contents) → file.body_at + file.body ≤ length bytes
    → HasContents bytes file contents → LieIn (length bytes) contents
contents_lie bytes file contents within has =
    let body : List ℕ = body_of bytes file in
    let long : length body ≡ file.body = length-take-le file.body _ (omega (arith, length-drop file.body_at bytes)) in
    let end : ℕ = file.body_at + length body in
    let P : Contents → Type 0 = λ contents. LieIn (length bytes) contents in
    let leads = has.has.reached.leads in
    subst P (sym has.are) (record {
      image = ends_before end (length bytes) _ (omega (arith, long)) (found_ends body file.body_at _ 0 has.sections has.has.end leads);
      depex = ends_before end (length bytes) _ (omega (arith, long)) (found_ends body file.body_at _ 0 has.sections has.has.end leads);
    })
