-- Where the files of a volume stand.
use Rattle.std.proofs.Common.{◌≡◌, ℕ, ◌+◌, ◌≤◌, List, [], ◌∷◌, length, take, sym, ◌∙◌, subst, arith}
use Rattle.std.specs.List.{All}
use Rattle.std.proofs.lemmas.List.{length-take-le}
use Rattle.std.proofs.lemmas.List.Elements.{All-nil, All-cons}
use Rattle.std.proofs.lemmas.Bool.Decides.{nat_tests}
use Rattle.mm_base.specs.declared.volume.File.{File}
use Rattle.mm_base.specs.declared.volume.Volume.{Volume}
use Rattle.volume_reader.specs.VolumeHeader.{volume_length, first_place}
use Rattle.volume_reader.specs.FileHeader.{Area, file_at}
use Rattle.volume_reader.specs.VolumeGrammar.{area_of, Span, HeaderAlone, Gone, Counts, HasHeader, SpansLead, place_behind, files_in, IsVolume}
use Rattle.volume_reader.proofs.HeaderLemmas.{passed}

-- a file with such a header ends in the volume
file_ends : (area : Area) (at : ℕ) → HasHeader area at → (file_at area at).body_at + (file_at area at).body ≤ length area.bytes
file_ends area at header = grind (arith, nat_tests, header.fits)

files_end : (area : Area) (at : ℕ) (spans : List Span) (to : ℕ) → SpansLead area at spans to
    → All (λ (file : File). file.body_at + file.body ≤ length area.bytes) (files_in area at spans)
files_end area at [] to leads = All-nil (λ (file : File). file.body_at + file.body ≤ length area.bytes)
files_end area at (HeaderAlone ∷ spans) to leads = files_end area (place_behind area at HeaderAlone) spans to leads.1
files_end area at (Gone ∷ spans) to leads = files_end area (place_behind area at Gone) spans to leads.1
files_end area at (Counts ∷ spans) to leads =
    All-cons (λ (file : File). file.body_at + file.body ≤ length area.bytes) (file_at area at) (files_in area (place_behind area at Counts) spans)
    (file_ends area at leads.0.0) (files_end area (place_behind area at Counts) spans to leads.1)

-- a volume lies in its bytes
pub volume_lies : (bytes : List ℕ) (volume : Volume) → IsVolume bytes volume → volume.length ≤ length bytes
volume_lies bytes volume is = omega (arith, (passed bytes is.header).within, is.length_is)

-- and the bodies of its files in it
pub files_lie : (bytes : List ℕ) (volume : Volume) → IsVolume bytes volume
    → All (λ (file : File). file.body_at + file.body ≤ volume.length) volume.files
files_lie bytes volume is =
    let there = files_end (area_of bytes) (first_place bytes) is.spans is.end is.leads in
    let long : length (take (volume_length bytes) bytes) ≡ volume.length = length-take-le (volume_length bytes) bytes (passed bytes is.header).within ∙ sym is.length_is in
    let P : List File → Type 0 = λ files. All (λ (file : File). file.body_at + file.body ≤ length (area_of bytes).bytes) files in
    let Q : ℕ → Type 0 = λ end. All (λ (file : File). file.body_at + file.body ≤ end) volume.files in
    subst Q long (subst P (sym is.files) there)

-- so they lie in the bytes
pub files_in_bytes : (bytes : List ℕ) (volume : Volume) → IsVolume bytes volume
    → All (λ (file : File). file.body_at + file.body ≤ length bytes) volume.files
files_in_bytes bytes volume is = λ k file within. let lies = files_lie bytes volume is k file within in let most = volume_lies bytes volume is in omega arith
