-- What stands at a place of a volume.
use Rattle.std.proofs.Common.{◌≡◌, ◌⊎◌, inl, inr, ℕ, ◌+◌, ◌%◌, ◌<◌, true, eqb, List, length, get_or, sum, ap, arith, rules}
use Rattle.std.proofs.Math.ListN.{set}
use Rattle.std.proofs.lemmas.List.{length-set, get_or-set_other}
use Rattle.std.proofs.lemmas.List.Sums.{sum_by-set}
use Rattle.std.proofs.lemmas.Bool.Decides.{nat_tests}
use Rattle.volume_reader.specs.FileHeader.{Area, has_room, state_at}
use Rattle.volume_reader.specs.declared.file_state.FileState.TheVariants.{DataValid, MarkedForUpdate}
use Rattle.volume_reader.specs.VolumeGrammar.{Counts}
use Rattle.volume_reader.specs.FindingInside.{Finds, FindsFile, listed}
use Rattle.volume_reader.specs.declared.area.Found.{Found}
use Rattle.volume_reader.specs.declared.area.Found.TheVariants.{End, Refused, Behind}

-- two bytes that make up for the difference of two sums
sums_agree : (s t a b : ℕ) → s ≡ t + a + b → eqb (s % 256) ((a + b) % 256) ≡ eqb (t % 256) 0
sums_agree s t a b e = grind (arith, nat_tests)

-- the header's sum is 0 without two of its bytes where it is as these two are
pub header_sum : (header : List ℕ) → 23 < length header
    → eqb (sum header % 256) ((get_or header 17 0 + get_or header 23 0) % 256) ≡ eqb (sum (set (set header 17 0) 23 0) % 256) 0
header_sum header long =
    let first = sum_by-set (λ (x : ℕ). x) header 17 0 0 (omega arith) in
    let second = sum_by-set (λ (x : ℕ). x) (set header 17 0) 23 0 0 (omega (arith, length-set {A = ℕ})) in
    let other : get_or (set header 17 0) 23 0 ≡ get_or header 23 0 = search (rules, get_or-set_other) in
    sums_agree (sum header) (sum (set (set header 17 0) 23 0)) (get_or header 17 0) (get_or header 23 0) (omega arith)

-- a file that counts
pub finds_counting : (area : Area) (at : ℕ) (found : Found) → has_room area at 24 ≡ true → (state_at area at ≡ DataValid) ⊎ (state_at area at ≡ MarkedForUpdate)
    → FindsFile area at true found → Finds area at found
finds_counting area at End room state found = absurd found
finds_counting area at (Refused kind) room (inl state) found =
    (record { room = room; written = λ e. cc; not_constructed = λ e. cc; not_invalid = λ e. cc }, found)
finds_counting area at (Refused kind) room (inr state) found =
    (record { room = room; written = λ e. cc; not_constructed = λ e. cc; not_invalid = λ e. cc }, found)
finds_counting area at (Behind next file) room state found =
    record { span = Counts; stands = (found.0, state); behind = found.1; files = ap listed found.2 }
