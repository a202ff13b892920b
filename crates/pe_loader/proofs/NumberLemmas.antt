-- Numbers in bytes, byte by byte.
use Rattle.std.proofs.Common.{◌≡◌, ℕ, suc, ◌+◌, ◌*◌, ◌≤◌, ◌<◌, List, length, get_or, ap, add-one, arith}
use Rattle.std.proofs.Math.Seq.{drop-cons}
use Rattle.mm_base.specs.Numbers.{number_in}

-- the first byte, and the number in the others
pub number_at-suc : (xs : List ℕ) (at n : ℕ) → at < length xs → number_in xs at (suc n) ≡ get_or xs at 0 + 256 * number_in xs (suc at) n
number_at-suc xs at n h = rw (drop-cons xs at 0 h)

pub number_at_2 : (xs : List ℕ) (at : ℕ) → at + 2 ≤ length xs → number_in xs at 2 ≡ get_or xs at 0 + 256 * get_or xs (at + 1) 0
number_at_2 xs at h =
    let first = number_at-suc xs at 1 (omega arith) in
    let second = number_at-suc xs (suc at) 0 (omega arith) in
    let e : get_or xs (suc at) 0 ≡ get_or xs (at + 1) 0 = rw add-one in
    omega arith

-- a number of four bytes is two of two
pub number_at_4 : (xs : List ℕ) (at : ℕ) → at + 4 ≤ length xs → number_in xs at 4 ≡ number_in xs at 2 + 65536 * number_in xs (at + 2) 2
number_at_4 xs at h =
    let a = number_at-suc xs at 3 (omega arith) in
    let b = number_at-suc xs (suc at) 2 (omega arith) in
    let c = number_at-suc xs at 1 (omega arith) in
    let d = number_at-suc xs (suc at) 0 (omega arith) in
    let e : number_in xs (suc (suc at)) 2 ≡ number_in xs (at + 2) 2 = let there : suc (suc at) ≡ at + 2 = omega arith in ap (λ k. number_in xs k 2) there in
    omega arith

-- numbers of small bytes are small
pub small_2 : (xs : List ℕ) (at : ℕ) → ((k : ℕ) → get_or xs k 0 < 256) → at + 2 ≤ length xs → number_in xs at 2 < 65536
small_2 xs at small h =
    let e = number_at_2 xs at h in
    let a = small at in
    let b = small (at + 1) in
    omega arith

pub small_4 : (xs : List ℕ) (at : ℕ) → ((k : ℕ) → get_or xs k 0 < 256) → at + 4 ≤ length xs → number_in xs at 4 < 4294967296
small_4 xs at small h =
    let e = number_at_4 xs at h in
    let a = small_2 xs at small (omega arith) in
    let b = small_2 xs (at + 2) small (omega arith) in
    omega arith
