-- A volume has few files: each takes 24 bytes at least.
use Rattle.std.proofs.Common.{◌≡◌, ℕ, ◌+◌, ◌-◌, ◌*◌, ◌≤◌, ◌<◌, ◌^◌, List, [], ◌∷◌, length, sym, subst, arith}
use Rattle.std.proofs.lemmas.Bool.Decides.{nat_tests}
use Rattle.std.proofs.lemmas.List.{length-take}
use Rattle.mm_base.specs.declared.volume.File.{File}
use Rattle.mm_base.specs.declared.volume.Volume.{Volume}
use Rattle.volume_reader.specs.FileHeader.{Area, size_at}
use Rattle.volume_reader.specs.VolumeHeader.{first_place, up_to_8, volume_length}
use Rattle.volume_reader.specs.VolumeGrammar.{area_of, Span, HeaderAlone, Gone, Counts, HasHeader, SpansLead, place_behind, files_in, IsVolume}

module _ (area : Area) where
  header_room : (at : ℕ) → HasHeader area at → at + 24 ≤ length area.bytes
  header_room at header = grind (arith, nat_tests, header.room)

  header_size : (at : ℕ) → HasHeader area at → 24 ≤ size_at area at
  header_size at header = grind (arith, nat_tests, header.fits)

  files_room : (at : ℕ) (spans : List Span) (to : ℕ) → SpansLead area at spans to
      → 24 * length (files_in area at spans) ≤ length area.bytes - at
  files_room at [] to leads = omega arith
  files_room at (HeaderAlone ∷ spans) to leads =
      let rest = files_room (place_behind area at HeaderAlone) spans to leads.1 in
      omega (arith, rest)
  files_room at (Gone ∷ spans) to leads =
      let rest = files_room (place_behind area at Gone) spans to leads.1 in
      omega (arith, rest)
  files_room at (Counts ∷ spans) to leads =
      let rest = files_room (place_behind area at Counts) spans to leads.1 in
      omega (arith, rest, header_room at leads.0.0, header_size at leads.0.0)

pub few_files : (bytes : List ℕ) (volume : Volume) → IsVolume bytes volume → length bytes ≤ 16777216 → length volume.files ≤ 699050
few_files bytes volume is few =
    let room = files_room (area_of bytes) (first_place bytes) is.spans is.end is.leads in
    let P : List File → Type 0 = λ files. length files ≤ 699050 in
    let cut = length-take (volume_length bytes) bytes in
    subst P (sym is.files) (omega (arith, room, cut, few))
