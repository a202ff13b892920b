-- Spans one behind another, as a reader walks over them.
use Rattle.std.proofs.Common.{◌≡◌, ℕ, ◌+◌, ◌<◌, ◌≤◌, List, [], ◌∷◌, ◌++◌, length, refl, sym, ap, ◌∙◌, subst, append_assoc, arith, Option}
use Rattle.std.proofs.lemmas.List.{append-nil}
use Rattle.std.proofs.lemmas.Bool.Decides.{nat_tests}
use Rattle.courses.proofs.CourseLemmas.{leads-more}
use Rattle.mm_base.specs.declared.volume.File.{File}
use Rattle.volume_reader.specs.VolumeHeader.{up_to_8}
use Rattle.volume_reader.specs.FileHeader.{Area, size_at}
use Rattle.volume_reader.specs.VolumeGrammar.{Span, HeaderAlone, Gone, Counts, StandsAt, SpansLead, place_behind, files_of, files_in, HasHeader}
use Rattle.volume_reader.specs.FindingInside.{FindsSpan, listed}

-- one more span behind others
pub leads-span : (area : Area) (at : ℕ) (spans : List Span) (to : ℕ) (span : Span) → SpansLead area at spans to → StandsAt area to span
    → SpansLead area at (spans ++ span ∷ []) (place_behind area to span)
leads-span area at spans to span leads stands = leads-more (StandsAt area) (place_behind area) at spans to span leads stands

-- and its file
pub files_in-more : (area : Area) (at : ℕ) (spans : List Span) (to : ℕ) (span : Span) → SpansLead area at spans to
    → files_in area at (spans ++ span ∷ []) ≡ files_in area at spans ++ files_of area to span
files_in-more area at [] to span leads = append-nil (files_of area at span) ∙ ap (λ place. files_of area place span) leads
files_in-more area at (other ∷ spans) to span leads =
    let behind : ℕ = place_behind area at other in
    ap (λ (files : List File). files_of area at other ++ files) (files_in-more area behind spans to span leads.1)
    ∙ sym (append_assoc (files_of area at other) (files_in area behind spans) (files_of area to span))

-- the files that were met on the way from one place to another
pub record Walked (area : Area) (first : ℕ) (files : List File) (at : ℕ) : Type 0 where
  pub spans : List Span
  pub leads : SpansLead area first spans at
  pub are : files ≡ files_in area first spans

pub walked_none : (area : Area) (first : ℕ) → Walked area first [] first
walked_none area first = record { spans = []; leads = refl; are = refl }

pub walked_more : (area : Area) (first : ℕ) (files : List File) (at next : ℕ) (file : Option File)
    → Walked area first files at → FindsSpan area at next file → Walked area first (files ++ listed file) next
walked_more area first files at next file walked found =
    let P : ℕ → Type 0 = λ place. SpansLead area first (walked.spans ++ found.span ∷ []) place in
    record {
      spans = walked.spans ++ found.span ∷ [];
      leads = subst P (sym found.behind) (leads-span area first walked.spans at found.span walked.leads found.stands);
      are = ap (λ (all : List File). all ++ listed file) walked.are
          ∙ ap (λ (more : List File). files_in area first walked.spans ++ more) found.files
          ∙ sym (files_in-more area first walked.spans at found.span walked.leads);
    }

-- a size that fits moves on, and within the volume
behind_size : (area : Area) (at : ℕ) → HasHeader area at → (at < up_to_8 (at + size_at area at)) × (at + size_at area at ≤ length area.bytes)
behind_size area at header = (grind (arith, nat_tests, header.fits), grind (arith, nat_tests, header.fits))

-- a span leads on, and at most to the end of the volume rounded up
pub moves_on : (area : Area) (at : ℕ) (span : Span) → StandsAt area at span
    → (at < place_behind area at span) × (place_behind area at span ≤ length area.bytes + 7)
moves_on area at HeaderAlone stands = (omega arith, grind (arith, nat_tests))
moves_on area at Gone stands =
    let h = behind_size area at stands.0 in
    (h.0, omega arith)
moves_on area at Counts stands =
    let h = behind_size area at stands.0 in
    (h.0, omega arith)

-- so a reader's next place is behind this one, and near enough
pub next_moves : (area : Area) (at next : ℕ) (file : Option File) → FindsSpan area at next file → (at < next) × (next ≤ length area.bytes + 7)
next_moves area at next file found =
    let h = moves_on area at found.span found.stands in
    (omega (arith, found.behind), omega (arith, found.behind))
