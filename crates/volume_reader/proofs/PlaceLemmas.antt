-- Where the files of a volume stand, and which state their bits tell.
use Rattle.std.proofs.Common.{◌≡◌, ℕ, zero, suc, ◌+◌, ◌%◌, ◌≤◌, ◌<◌, List, [], ◌∷◌, Some, sym, subst, arith}
use Rattle.std.specs.List.{All, AllPairs, slice_get}
use Rattle.std.proofs.lemmas.List.Elements.{All-nil, All-cons, All-weaker}
use Rattle.std.proofs.lemmas.List.Kept.{AllPairs-cons}
use Rattle.std.proofs.lemmas.Bool.Decides.{nat_tests}
use Rattle.mm_base.specs.declared.volume.File.{File}
use Rattle.mm_base.specs.declared.volume.Volume.{Volume}
use Rattle.volume_reader.specs.FileHeader.{Area, size_at, state_of, file_at}
use Rattle.volume_reader.specs.FileLaws.{states, IsHighestBit}
use Rattle.volume_reader.specs.VolumeHeader.{first_place, up_to_8}
use Rattle.volume_reader.specs.VolumeGrammar.{area_of, Span, HeaderAlone, Gone, Counts, HasHeader, SpansLead, place_behind, files_in, IsVolume}

-- ---- where files stand

-- a file is a header and a body
abbrev IsWhole : File → Type 0
IsWhole file = (file.at + 24 ≤ file.body_at) × (file.at + file.size ≡ file.body_at + file.body)

-- one ends before the other begins
abbrev IsBefore : File → File → Type 0
IsBefore one later = one.at + one.size ≤ later.at

-- files from a place on: they stand at multiples of 8, lie apart, and are whole, and none stands before the place
record Placed (place : ℕ) (files : List File) : Type 0 where
  pub aligned : All (λ (file : File). file.at % 8 ≡ 0) files
  pub apart : AllPairs IsBefore files
  pub whole : All IsWhole files
  pub later : All (λ (file : File). place ≤ file.at) files

module _ (area : Area) where
  none_placed : (place : ℕ) → Placed place []
  none_placed place = record {
    aligned = All-nil (λ (file : File). file.at % 8 ≡ 0);
    apart = λ i j d h within. absurd (omega arith);
    whole = All-nil IsWhole;
    later = All-nil (λ (file : File). place ≤ file.at);
  }

  earlier : (place next : ℕ) (files : List File) → place ≤ next → Placed next files → Placed place files
  earlier place next files h placed = record {
    aligned = placed.aligned;
    apart = placed.apart;
    whole = placed.whole;
    later = All-weaker (λ (file : File). next ≤ file.at) (λ (file : File). place ≤ file.at) (λ file low. omega arith) files placed.later;
  }

  file_whole : (at : ℕ) → HasHeader area at → IsWhole (file_at area at)
  file_whole at header = (grind (arith, nat_tests), grind (arith, nat_tests, header.fits))

  one_more : (at : ℕ) (files : List File) → HasHeader area at → at % 8 ≡ 0 → Placed (up_to_8 (at + size_at area at)) files
      → Placed at (file_at area at ∷ files)
  one_more at files header aligned placed = record {
    aligned = All-cons (λ (file : File). file.at % 8 ≡ 0) (file_at area at) files aligned placed.aligned;
    apart = AllPairs-cons IsBefore (file_at area at) files
        (All-weaker (λ (file : File). up_to_8 (at + size_at area at) ≤ file.at) (IsBefore (file_at area at)) (λ file low. omega arith) files placed.later)
        placed.apart;
    whole = All-cons IsWhole (file_at area at) files (file_whole at header) placed.whole;
    later = All-cons (λ (file : File). at ≤ file.at) (file_at area at) files (omega arith)
        (All-weaker (λ (file : File). up_to_8 (at + size_at area at) ≤ file.at) (λ (file : File). at ≤ file.at) (λ file low. omega arith) files placed.later);
  }

  placed_from : (at : ℕ) (spans : List Span) (to : ℕ) → at % 8 ≡ 0 → SpansLead area at spans to → Placed at (files_in area at spans)
  placed_from at [] to aligned leads = none_placed at
  placed_from at (HeaderAlone ∷ spans) to aligned leads =
      earlier at (place_behind area at HeaderAlone) (files_in area (place_behind area at HeaderAlone) spans) (omega arith)
      (placed_from (place_behind area at HeaderAlone) spans to (omega arith) leads.1)
  placed_from at (Gone ∷ spans) to aligned leads =
      earlier at (place_behind area at Gone) (files_in area (place_behind area at Gone) spans) (omega arith)
      (placed_from (place_behind area at Gone) spans to (omega arith) leads.1)
  placed_from at (Counts ∷ spans) to aligned leads =
      one_more at (files_in area (place_behind area at Counts) spans) leads.0.0 aligned
      (placed_from (place_behind area at Counts) spans to (omega arith) leads.1)

module _ (bytes : List ℕ) (volume : Volume) (is : IsVolume bytes volume) where
  placed : Placed (first_place bytes) volume.files
  placed =
      subst (Placed (first_place bytes)) (sym is.files) (placed_from (area_of bytes) (first_place bytes) is.spans is.end (omega arith) is.leads)

  pub files_aligned : All (λ (file : File). file.at % 8 ≡ 0) volume.files
  files_aligned = placed.aligned

  pub files_apart : AllPairs (λ (one : File) (later : File). one.at + one.size ≤ later.at) volume.files
  files_apart = placed.apart

  pub files_whole : All (λ (file : File). (file.at + 24 ≤ file.body_at) × (file.at + file.size ≡ file.body_at + file.body)) volume.files
  files_whole = placed.whole

-- ---- states

-- the highest of six bits that is set tells between which powers of 2 a number lies
pub highest_decides : (bits k : ℕ) → bits < 64 → k < 6 → IsHighestBit bits k → slice_get states k ≡ Some (state_of bits)
highest_decides bits zero h few is =
    let set = is.set in
    let a = is.highest 1 (omega arith) in
    let b = is.highest 2 (omega arith) in
    let c = is.highest 3 (omega arith) in
    let d = is.highest 4 (omega arith) in
    let e = is.highest 5 (omega arith) in
    grind (arith, nat_tests)
highest_decides bits (suc zero) h few is =
    let set = is.set in
    let b = is.highest 2 (omega arith) in
    let c = is.highest 3 (omega arith) in
    let d = is.highest 4 (omega arith) in
    let e = is.highest 5 (omega arith) in
    grind (arith, nat_tests)
highest_decides bits (suc (suc zero)) h few is =
    let set = is.set in
    let c = is.highest 3 (omega arith) in
    let d = is.highest 4 (omega arith) in
    let e = is.highest 5 (omega arith) in
    grind (arith, nat_tests)
highest_decides bits (suc (suc (suc zero))) h few is =
    let set = is.set in
    let d = is.highest 4 (omega arith) in
    let e = is.highest 5 (omega arith) in
    grind (arith, nat_tests)
highest_decides bits (suc (suc (suc (suc zero)))) h few is =
    let set = is.set in
    let e = is.highest 5 (omega arith) in
    grind (arith, nat_tests)
highest_decides bits (suc (suc (suc (suc (suc zero))))) h few is =
    let set = is.set in
    grind (arith, nat_tests)
highest_decides bits (suc (suc (suc (suc (suc (suc k)))))) h few is = absurd (omega arith)
