-- What the checks of a volume header come to, one after another.
use Rattle.std.proofs.Common.{◌≡◌, ℕ, get_or, take, tests, ◌+◌, ◌≤◌, ◌<◌, Bool, true, false, List, length, None, refl, ap, ◌∙◌, arith, rules, ◌==◌}
use Rattle.std.proofs.lemmas.Bool.Decides.{nat_tests}
use Rattle.courses.proofs.CheckLemmas.{fails as first_fails}
use Rattle.mm_base.proofs.CheckLemmas.{AllPass, all_pass}
use Rattle.mm_base.specs.Checks.{Check}
use Rattle.mm_base.specs.declared.volume.VolumeKind.{VolumeKind}
use Rattle.mm_base.specs.declared.volume.VolumeKind.TheVariants.{Short}
use Rattle.volume_reader.specs.VolumeHeader.{checks, first_failing, header_length, volume_length, ext_header, ext_size, ext_header_fits, first_place, up_to_8}
use Rattle.volume_reader.specs.VolumeGrammar.{HasBadHeader}
use Rattle.volume_reader.specs.declared.volume_fault.VolumeFault.{VolumeFault}

-- the check at a place
abbrev pub check_at : List ℕ → ℕ → Check VolumeKind
check_at bytes k = get_or (checks bytes) k (record { kind = Short; at = 0; passes = true })

-- the first check that fails is the header's fault
pub fails : (bytes : List ℕ) (fault : VolumeFault) (k : ℕ) → k < 8 → AllPass (take k (checks bytes)) → (check_at bytes k).passes ≡ false
    → fault ≡ record { at = (check_at bytes k).at; kind = (check_at bytes k).kind } → HasBadHeader bytes fault
fails bytes fault k h pass e is =
    let there = first_fails (checks bytes) k (record { kind = Short; at = 0; passes = true }) h pass e in
    record {
      check = there.check;
      first = there.first;
      kind_is = ap (λ (f : VolumeFault). f.kind) is ∙ there.kind_is;
      place_is = ap (λ (f : VolumeFault). f.at) is ∙ there.place_is;
    }

-- what a header that passes all checks says of its lengths
pub record Passed (bytes : List ℕ) : Type 0 where
  pub fixed : 64 ≤ length bytes
  pub least : 64 ≤ header_length bytes
  pub header : header_length bytes ≤ volume_length bytes
  pub within : volume_length bytes ≤ length bytes
  pub ext : ext_header_fits bytes ≡ true

pub passed : (bytes : List ℕ) → first_failing bytes ≡ None → Passed bytes
passed bytes none =
    let pass : AllPass (checks bytes) = all_pass (checks bytes) none in
    record {
      fixed = search (rules, tests);
      least = search (rules, tests);
      header = search (rules, tests);
      within = search (rules, tests);
      ext = pass.1.1.1.1.1.1.1.0;
    }

-- so does what stands behind the extended header's offset
pub record ExtIn (bytes : List ℕ) : Type 0 where
  pub room : ext_header bytes + 20 ≤ volume_length bytes
  pub fits : ext_header bytes + ext_size bytes ≤ volume_length bytes

pub ext_in : (bytes : List ℕ) → first_failing bytes ≡ None → (ext_header bytes ≡ 0 → ⊥) → ExtIn bytes
ext_in bytes none there =
    let fits = (passed bytes none).ext in
    record { room = grind (arith, nat_tests); fits = grind (arith, nat_tests) }

-- the first file stands in the volume, or up to 7 bytes behind it
pub first_near : (bytes : List ℕ) → first_failing bytes ≡ None → first_place bytes ≤ volume_length bytes + 7
first_near bytes none = near (ext_header bytes == 0) refl
  where
    near : (absent : Bool) → (ext_header bytes == 0) ≡ absent → first_place bytes ≤ volume_length bytes + 7
    near true is =
        let p = passed bytes none in
        let e : first_place bytes ≡ up_to_8 (header_length bytes) = rw is in
        omega (arith, p.header)
    near false is =
        let q = ext_in bytes none (λ zero. grind (arith, nat_tests)) in
        let e : first_place bytes ≡ up_to_8 (ext_header bytes + ext_size bytes) = rw is in
        omega (arith, q.fits)
