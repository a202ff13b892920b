-- Bytes that are as a volume is, as far as its length goes, are the same volume.
use Rattle.std.proofs.Common.{◌≡◌, ℕ, ◌+◌, ◌-◌, ◌%◌, ◌≤◌, Bool, true, false, ◌&&◌, ◌||◌, ◌==◌, nat_le, List, ◌++◌, length, take, drop, None, refl, sym, ap, ◌∙◌, subst, arith, rules, codes, length-append}
use Rattle.std.specs.Str.{bytes_eq}
use Rattle.std.proofs.lemmas.List.{drop-take, take-take, length-take-le, take-append-le, take-append-drop}
use Rattle.std.proofs.lemmas.Bool.Decides.{nat_tests}
use Rattle.mm_base.specs.declared.volume.Volume.{Volume}
use Rattle.mm_base.proofs.CheckLemmas.{all_pass, none_fails}
use Rattle.mm_base.specs.Numbers.{number_of, number_in, has_bit}
use Rattle.volume_reader.specs.VolumeHeader.{checks, first_failing, header_length, volume_length, ext_header, ext_size, ext_header_fits, file_system, ffs2_guid, ffs3_guid, first_place, up_to_8, erase_polarity}
use Rattle.volume_reader.specs.FileHeader.{Area}
use Rattle.volume_reader.specs.Sums.{sum_in_16_bits}
use Rattle.volume_reader.specs.VolumeGrammar.{IsVolume, area_of, SpansLead, EndsAt, files_in}
use Rattle.volume_reader.proofs.HeaderLemmas.{passed, ext_in}

-- ---- bytes with one front

-- a front of a front
take_cut : (xs : List ℕ) (n cut : ℕ) → n ≤ cut → take n (take cut xs) ≡ take n xs
take_cut xs n cut h = search (rules, take-take)

-- the first n bytes of these are those of the others, which have as many
record Fronts (xs ys : List ℕ) (n : ℕ) : Type 0 where
  pub same : take n ys ≡ take n xs
  pub long : n ≤ length ys

front : (xs ys : List ℕ) (n k : ℕ) → Fronts xs ys n → k ≤ n → take k ys ≡ take k xs
front xs ys n k fronts h = sym (take_cut ys k n h) ∙ ap (take k) fronts.same ∙ take_cut xs k n h

-- bytes in a front
in_front : (xs : List ℕ) (n at k : ℕ) → at + k ≤ n → take k (drop at (take n xs)) ≡ take k (drop at xs)
in_front xs n at k h =
    let split : n ≡ at + (n - at) = omega arith in
    ap (λ (c : ℕ). take k (drop at (take c xs))) split
    ∙ ap (take k) (drop-take at (n - at) xs)
    ∙ take_cut (drop at xs) k (n - at) (omega arith)

part : (xs ys : List ℕ) (n at k : ℕ) → Fronts xs ys n → at + k ≤ n → take k (drop at ys) ≡ take k (drop at xs)
part xs ys n at k fronts h = sym (in_front ys n at k h) ∙ ap (λ zs. take k (drop at zs)) fronts.same ∙ in_front xs n at k h

number : (xs ys : List ℕ) (n at k : ℕ) → Fronts xs ys n → at + k ≤ n → number_in ys at k ≡ number_in xs at k
number xs ys n at k fronts h = ap number_of (part xs ys n at k fronts h)

-- ---- what a header tells

-- the extended header where there is one
ext_size_same : (bytes other : List ℕ) → first_failing bytes ≡ None → Fronts bytes other (volume_length bytes) → 64 ≤ volume_length bytes → (ext_header bytes ≡ 0 → ⊥)
    → ext_size other ≡ ext_size bytes
ext_size_same bytes other none fronts fixed there =
    let q = ext_in bytes none there in
    ap (λ (at : ℕ). number_in other (at + 16) 4) (number bytes other (volume_length bytes) 52 2 fronts (omega arith))
    ∙ number bytes other (volume_length bytes) (ext_header bytes + 16) 4 fronts (omega (arith, q.room))

ext_same : (bytes other : List ℕ) → first_failing bytes ≡ None → Fronts bytes other (volume_length bytes) → 64 ≤ volume_length bytes → ext_header_fits other ≡ true
ext_same bytes other none fronts fixed = by_ext (ext_header bytes == 0) refl
  where
    by_ext : (absent : Bool) → (ext_header bytes == 0) ≡ absent → ext_header_fits other ≡ true
    by_ext true is =
        let e = number bytes other (volume_length bytes) 52 2 fronts (omega arith) in
        let zero_ext : (ext_header other == 0) ≡ true = ap (λ n. n == 0) e ∙ is in
        rw zero_ext
    by_ext false is =
        let e = number bytes other (volume_length bytes) 52 2 fronts (omega arith) in
        let there : ext_header bytes ≡ 0 → ⊥ = λ zero_ext. grind (arith, nat_tests) in
        let size = ext_size_same bytes other none fronts fixed there in
        let long = number bytes other (volume_length bytes) 32 8 fronts (omega arith) in
        let fits = (passed bytes none).ext in
        ap (λ (n : ℕ). (n == 0) || (nat_le (n + 20) (volume_length other) && nat_le 20 (ext_size other) && nat_le (n + ext_size other) (volume_length other))) e
        ∙ ap (λ (n : ℕ). (ext_header bytes == 0) || (nat_le (ext_header bytes + 20) n && nat_le 20 (ext_size other) && nat_le (ext_header bytes + ext_size other) n)) long
        ∙ ap (λ (n : ℕ). (ext_header bytes == 0) || (nat_le (ext_header bytes + 20) (volume_length bytes) && nat_le 20 n && nat_le (ext_header bytes + n) (volume_length bytes))) size
        ∙ fits

-- the first file's place
first_same : (bytes other : List ℕ) → first_failing bytes ≡ None → Fronts bytes other (volume_length bytes) → 64 ≤ volume_length bytes → first_place other ≡ first_place bytes
first_same bytes other none fronts fixed = by_ext (ext_header bytes == 0) refl
  where
    by_ext : (absent : Bool) → (ext_header bytes == 0) ≡ absent → first_place other ≡ first_place bytes
    by_ext true is =
        let e = number bytes other (volume_length bytes) 52 2 fronts (omega arith) in
        let zero_ext : (ext_header other == 0) ≡ true = ap (λ n. n == 0) e ∙ is in
        rw (zero_ext, is) (ap up_to_8 (number bytes other (volume_length bytes) 48 2 fronts (omega arith)))
    by_ext false is =
        let e = number bytes other (volume_length bytes) 52 2 fronts (omega arith) in
        let there : ext_header bytes ≡ 0 → ⊥ = λ zero_ext. grind (arith, nat_tests) in
        let size = ext_size_same bytes other none fronts fixed there in
        let some_ext : (ext_header other == 0) ≡ false = ap (λ n. n == 0) e ∙ is in
        rw (some_ext, is) (λ i. up_to_8 (e i + size i))

-- one of the tests that are passed in place of another
pass_other : (a b c d : Bool) → (a && b && c) ≡ true → d ≡ true → (a && b && d) ≡ true
pass_other true true c d all there = there
pass_other true false c d all there = all
pass_other false b c d all there = all

pass_last : (a c d : Bool) → (a && c) ≡ true → d ≡ true → (a && d) ≡ true
pass_last true c d all there = there
pass_last false c d all there = all

-- the header passes all checks where it did
passes : (bytes other : List ℕ) → first_failing bytes ≡ None → Fronts bytes other (volume_length bytes) → first_failing other ≡ None
passes bytes other none fronts =
    let n : ℕ = volume_length bytes in
    let p = passed bytes none in
    let fixed : 64 ≤ volume_length bytes = omega (arith, p.least, p.header) in
    let pass = all_pass (checks bytes) none in
    let header : header_length other ≡ header_length bytes = number bytes other n 48 2 fronts (omega arith) in
    let volume : volume_length other ≡ volume_length bytes = number bytes other n 32 8 fronts (omega arith) in
    let system : file_system other ≡ file_system bytes = part bytes other n 16 16 fronts (omega arith) in
    let words : take (header_length bytes) other ≡ take (header_length bytes) bytes = front bytes other n (header_length bytes) fronts p.header in
    let far = fronts.long in
    let least : nat_le 64 (length other) ≡ true = grind (arith, nat_tests) in
    let reaches : nat_le (header_length bytes) (length other) ≡ true = grind (arith, nat_tests, p.header) in
    let covers : nat_le (volume_length bytes) (length other) ≡ true = grind (arith, nat_tests) in
    let shape : (nat_le 64 (header_length bytes) && (header_length bytes % 2 == 0) && nat_le (header_length bytes) (length other)) ≡ true
    = pass_other (nat_le 64 (header_length bytes)) (header_length bytes % 2 == 0) _ _ pass.1.1.0 reaches in
    none_fails (checks other) (
      least,
      (
        ap (λ (sig : List ℕ). bytes_eq sig (codes "_FVH")) (part bytes other n 40 4 fronts (omega arith)) ∙ pass.1.0,
        (
          (λ i. nat_le 64 (header i) && (header i % 2 == 0) && nat_le (header i) (length other)) ∙ shape,
          (
            (λ i. sum_in_16_bits (take (header i) other) == 0) ∙ ap (λ (xs : List ℕ). sum_in_16_bits xs == 0) words ∙ pass.1.1.1.0,
            (
              ap (λ k. k == 2) (number bytes other n 55 1 fronts (omega arith)) ∙ pass.1.1.1.1.0,
              (
                ap (λ (guid : List ℕ). bytes_eq guid ffs2_guid || bytes_eq guid ffs3_guid) system ∙ pass.1.1.1.1.1.0,
                (
                  (λ i. nat_le (header i) (volume i) && nat_le (volume i) (length other)) ∙ pass_last (nat_le (header_length bytes) (volume_length bytes)) _ _ pass.1.1.1.1.1.1.0 covers,
                  (ext_same bytes other none fronts fixed, tt),
                ),
              ),
            ),
          ),
        ),
      ),
    )

-- ---- a volume is what its bytes are

same_front : (bytes other : List ℕ) (volume : Volume) → IsVolume bytes volume → Fronts bytes other (volume_length bytes) → IsVolume other volume
same_front bytes other volume is fronts =
    let n : ℕ = volume_length bytes in
    let p = passed bytes is.header in
    let fixed : 64 ≤ volume_length bytes = omega (arith, p.least, p.header) in
    let long : volume_length other ≡ volume_length bytes = number bytes other n 32 8 fronts (omega arith) in
    let system = ap (λ (guid : List ℕ). bytes_eq guid ffs3_guid) (part bytes other n 16 16 fronts (omega arith)) in
    let polarity : erase_polarity other ≡ erase_polarity bytes = ap (λ k. has_bit k 0x800) (number bytes other n 44 4 fronts (omega arith)) in
    let inside : take (volume_length other) other ≡ take (volume_length bytes) bytes = ap (λ k. take k other) long ∙ fronts.same in
    let area : area_of other ≡ area_of bytes = λ i. record { bytes = inside i; ffs3 = system i; erase_polarity = polarity i } in
    let first = first_same bytes other is.header fronts fixed in
    let P : Area → Type 0 = λ area. SpansLead area (first_place other) is.spans is.end in
    let Q : ℕ → Type 0 = λ first. SpansLead (area_of bytes) first is.spans is.end in
    let R : Area → Type 0 = λ area. EndsAt area is.end in
    record {
      header = passes bytes other is.header fronts;
      length_is = is.length_is ∙ sym long;
      system = is.system ∙ sym system;
      spans = is.spans;
      end = is.end;
      leads = subst P (sym area) (subst Q (sym first) is.leads);
      ends = subst R (sym area) is.ends;
      files = is.files ∙ (λ i. files_in (sym area i) (sym first i) is.spans);
    }

-- what stands behind it can be cut off
pub same_past_end : (bytes : List ℕ) (cut : ℕ) (volume : Volume) → IsVolume bytes volume → volume_length bytes ≤ cut → cut ≤ length bytes → IsVolume (take cut bytes) volume
same_past_end bytes cut volume is far within =
    let long = length-take-le cut bytes within in
    same_front bytes (take cut bytes) volume is (record { same = take_cut bytes (volume_length bytes) cut far; long = omega arith })

-- and anything can be added there
pub same_with_more : (bytes more : List ℕ) (volume : Volume) → IsVolume bytes volume → IsVolume (bytes ++ more) volume
same_with_more bytes more volume is =
    let p = passed bytes is.header in
    let within = p.within in
    same_front bytes (bytes ++ more) volume is (record { same = take-append-le (volume_length bytes) bytes more within; long = omega (arith, length-append bytes more) })

pub same_before_cut : (bytes : List ℕ) (cut : ℕ) (volume : Volume) → IsVolume (take cut bytes) volume → IsVolume bytes volume
same_before_cut bytes cut volume is =
    let P : List ℕ → Type 0 = λ xs. IsVolume xs volume in
    subst P (take-append-drop cut bytes) (same_with_more (take cut bytes) (drop cut bytes) volume is)
