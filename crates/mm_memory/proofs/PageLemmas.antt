-- Pages, one after another, as one list of bytes.
use Rattle.std.proofs.Common.{◌≡◌, ℕ, zero, suc, ◌+◌, ◌-◌, ◌*◌, ◌≤◌, ◌<◌, ◌^◌, List, [], ◌∷◌, ◌++◌, length, take, drop, set, get_or}
use Rattle.std.proofs.Common.{◌⊎◌, inl, inr, refl, sym, ap, subst, ◌∙◌, add-zero, zero-add, append_assoc, length-append, mul_assoc, lit<}
use Rattle.std.proofs.Common.{arith}
use Rattle.std.specs.List.{All}
use Rattle.std.proofs.Math.Nat.{pow-succ'}
use Rattle.std.proofs.Math.ListN.{drop_of_length-le}
use Rattle.std.proofs.Math.Seq.{drop-append-add, take-append-add, take-length, take-add}
use Rattle.std.proofs.lemmas.List.{take-append-le, drop-append-le, take-append-drop, length-take, length-drop, length-replicate, drop-drop}
use Rattle.std.proofs.lemmas.List.{append-nil}
use Rattle.std.proofs.lemmas.List.Elements.{All-nil, All-cons, All-head, All-tail, All-set}
use Rattle.mm_base.specs.Frames.{ArePages, page_in, with_piece, zeros}
use Rattle.mm_base.specs.Numbers.{overwritten, number_of, number_in}
use Rattle.mm_memory.specs.Flat.{joined, pages_in}

-- ---- pieces

-- a piece within the front part
pub overwritten-append_left : (front rest piece : List ℕ) (at : ℕ) → at + length piece ≤ length front
    → overwritten (front ++ rest) at piece ≡ overwritten front at piece ++ rest
overwritten-append_left front rest piece at fits =
    ap (λ (before : List ℕ). before ++ piece ++ drop (at + length piece) (front ++ rest)) (take-append-le at front rest (omega arith))
    ∙ ap (λ (after : List ℕ). take at front ++ piece ++ after) (drop-append-le (at + length piece) front rest fits)
    ∙ sym (append_assoc (take at front ++ piece) (drop (at + length piece) front) rest)

-- a piece past the front part
pub overwritten-append_right : (front rest piece : List ℕ) (at : ℕ)
    → overwritten (front ++ rest) (length front + at) piece ≡ front ++ overwritten rest at piece
overwritten-append_right front rest piece at =
    let past : length front + at + length piece ≡ length front + (at + length piece) = omega arith in
    ap (λ (before : List ℕ). before ++ piece ++ drop (length front + at + length piece) (front ++ rest)) (take-append-add front rest at)
    ∙ ap (λ k. front ++ take at rest ++ piece ++ drop k (front ++ rest)) past
    ∙ ap (λ (after : List ℕ). front ++ take at rest ++ piece ++ after) (drop-append-add front rest (at + length piece))
    ∙ ap (λ (all : List ℕ). all ++ drop (at + length piece) rest) (append_assoc front (take at rest) piece)
    ∙ append_assoc front (take at rest ++ piece) (drop (at + length piece) rest)

pub length-overwritten : (bytes piece : List ℕ) (at : ℕ) → at + length piece ≤ length bytes
    → length (overwritten bytes at piece) ≡ length bytes
length-overwritten bytes piece at fits = omega (
  arith,
  length-append (take at bytes ++ piece) (drop (at + length piece) bytes),
  length-append (take at bytes) piece,
  length-take at bytes,
  length-drop (at + length piece) bytes,
)

-- one piece after another is both as one
pub overwritten-after : (bytes piece more : List ℕ) (at : ℕ) → at + (length piece + length more) ≤ length bytes
    → overwritten (overwritten bytes at piece) (at + length piece) more ≡ overwritten bytes at (piece ++ more)
overwritten-after bytes piece more at fits =
    let front : List ℕ = take at bytes ++ piece in
    let rest : List ℕ = drop (at + length piece) bytes in
    let long : at + length piece ≡ length front = omega (arith, length-append (take at bytes) piece, length-take at bytes) in
    let both : at + length piece + length more ≡ at + length (piece ++ more) = omega (arith, length-append piece more) in
    ap (λ k. overwritten (front ++ rest) k more) (long ∙ sym (add-zero (length front)))
    ∙ overwritten-append_right front rest more 0
    ∙ ap (λ k. front ++ (more ++ drop k rest)) (zero-add (length more))
    ∙ ap (λ (after : List ℕ). front ++ (more ++ after)) (drop-drop (length more) (at + length piece) bytes ∙ ap (λ k. drop k bytes) both)
    ∙ sym (append_assoc front more (drop (at + length (piece ++ more)) bytes))
    ∙ ap (λ (all : List ℕ). all ++ drop (at + length (piece ++ more)) bytes) (append_assoc (take at bytes) piece more)

-- what was written is read back
pub read_back : (bytes piece : List ℕ) (at : ℕ) → at + length piece ≤ length bytes
    → take (length piece) (drop at (overwritten bytes at piece)) ≡ piece
read_back bytes piece at fits =
    let rest : List ℕ = drop (at + length piece) bytes in
    let long : at ≡ length (take at bytes) + 0 = omega (arith, length-take at bytes) in
    ap (λ (all : List ℕ). take (length piece) (drop at all)) (append_assoc (take at bytes) piece rest)
    ∙ ap (λ k. take (length piece) (drop k (take at bytes ++ (piece ++ rest)))) long
    ∙ ap (take (length piece)) (drop-append-add (take at bytes) (piece ++ rest) 0)
    ∙ take-append-le (length piece) piece rest (omega arith) ∙ take-length piece

-- what stands before a piece stays
pub stays_before : (bytes piece : List ℕ) (at from n : ℕ) → at + length piece ≤ length bytes → from + n ≤ at
    → take n (drop from (overwritten bytes at piece)) ≡ take n (drop from bytes)
stays_before bytes piece at from n fits before =
    let rest : List ℕ = drop (at + length piece) bytes in
    let long = length-take at bytes in
    ap (λ (all : List ℕ). take n (drop from all)) (append_assoc (take at bytes) piece rest)
    ∙ ap (take n) (drop-append-le from (take at bytes) (piece ++ rest) (omega (arith, long)))
    ∙ take-append-le n (drop from (take at bytes)) (piece ++ rest) (omega (arith, long, length-drop from (take at bytes)))
    ∙ sym (
    ap (λ (all : List ℕ). take n (drop from all)) (sym (take-append-drop at bytes))
    ∙ ap (take n) (drop-append-le from (take at bytes) (drop at bytes) (omega (arith, long)))
    ∙ take-append-le n (drop from (take at bytes)) (drop at bytes) (omega (arith, long, length-drop from (take at bytes)))
    )

-- what stands after a piece stays
pub stays_after : (bytes piece : List ℕ) (at from n : ℕ) → at + length piece ≤ length bytes → at + length piece ≤ from
    → take n (drop from (overwritten bytes at piece)) ≡ take n (drop from bytes)
stays_after bytes piece at from n fits after =
    let front : List ℕ = take at bytes ++ piece in
    let past = at + length piece in
    let long : length front ≡ past = omega (arith, length-append (take at bytes) piece, length-take at bytes) in
    let place : from ≡ length front + (from - past) = omega arith in
    let same : past + (from - past) ≡ from = omega arith in
    ap (λ k. take n (drop k (front ++ drop past bytes))) place
    ∙ ap (take n) (drop-append-add front (drop past bytes) (from - past))
    ∙ ap (take n) (drop-drop (from - past) past bytes)
    ∙ ap (λ k. take n (drop k bytes)) same

pub stays_apart : (bytes piece : List ℕ) (at from n : ℕ) → at + length piece ≤ length bytes
    → (from + n ≤ at) ⊎ (at + length piece ≤ from) → take n (drop from (overwritten bytes at piece)) ≡ take n (drop from bytes)
stays_apart bytes piece at from n fits (inl before) = stays_before bytes piece at from n fits before
stays_apart bytes piece at from n fits (inr after) = stays_after bytes piece at from n fits after

pub overwritten-nothing : (bytes : List ℕ) (at : ℕ) → overwritten bytes at [] ≡ bytes
overwritten-nothing bytes at =
    ap (λ (front : List ℕ). front ++ drop (at + 0) bytes) (append-nil (take at bytes))
    ∙ ap (λ k. take at bytes ++ drop k bytes) (add-zero at)
    ∙ take-append-drop at bytes

pub length-zeros : (n : ℕ) → length (zeros n) ≡ n
unfolding zeros
length-zeros n = length-replicate n 0

pub no_zeros : zeros 0 ≡ []
unfolding zeros
no_zeros = refl

-- a piece as long as all bytes replaces them
pub overwritten-whole : (bytes piece : List ℕ) → length bytes ≡ length piece → overwritten bytes 0 piece ≡ piece
overwritten-whole bytes piece size =
    let nothing : drop (0 + length piece) bytes ≡ [] = drop_of_length-le bytes (omega arith) in
    ap (λ (rest : List ℕ). [] ++ piece ++ rest) nothing ∙ append-nil piece

-- ---- pages

-- the bytes of a page are those of memory from its begin on
pub chunk_of_page : (pages : List (List ℕ)) (page at n : ℕ) → ArePages pages → page < length pages → at + n ≤ 4096
    → take n (drop at (page_in pages page)) ≡ take n (drop (4096 * page + at) (joined pages))
chunk_of_page [] page at n are there fits = absurd (omega arith)
chunk_of_page (first ∷ pages) zero at n are there fits =
    let size : length first ≡ 4096 = All-head (λ page. length page ≡ 4096) first pages are in
    let place : 4096 * zero + at ≡ at = omega arith in
    sym (
    ap (λ k. take n (drop k (first ++ joined pages))) place
    ∙ ap (take n) (drop-append-le at first (joined pages) (omega arith))
    ∙ take-append-le n (drop at first) (joined pages) (omega (arith, length-drop at first))
    )
chunk_of_page (first ∷ pages) (suc page) at n are there fits =
    let size : length first ≡ 4096 = All-head (λ page. length page ≡ 4096) first pages are in
    let place : 4096 * suc page + at ≡ length first + (4096 * page + at) = omega arith in
    chunk_of_page pages page at n (All-tail (λ page. length page ≡ 4096) first pages are) (omega arith) fits
    ∙ sym (
    ap (λ k. take n (drop k (first ++ joined pages))) place
    ∙ ap (take n) (drop-append-add first (joined pages) (4096 * page + at))
    )

-- a piece written to a page is written to memory
pub joined-with_piece : (pages : List (List ℕ)) (page at : ℕ) (piece : List ℕ) → ArePages pages → page < length pages
    → at + length piece ≤ 4096 → joined (with_piece pages page at piece) ≡ overwritten (joined pages) (4096 * page + at) piece
joined-with_piece [] page at piece are there fits = absurd (omega arith)
joined-with_piece (first ∷ pages) zero at piece are there fits =
    let size : length first ≡ 4096 = All-head (λ page. length page ≡ 4096) first pages are in
    let place : 4096 * zero + at ≡ at = omega arith in
    sym (
    ap (λ k. overwritten (first ++ joined pages) k piece) place
    ∙ overwritten-append_left first (joined pages) piece at (omega arith)
    )
joined-with_piece (first ∷ pages) (suc page) at piece are there fits =
    let size : length first ≡ 4096 = All-head (λ page. length page ≡ 4096) first pages are in
    let place : 4096 * suc page + at ≡ length first + (4096 * page + at) = omega arith in
    let rest = All-tail (λ page. length page ≡ 4096) first pages are in
    ap (λ (bytes : List ℕ). first ++ bytes) (joined-with_piece pages page at piece rest (omega arith) fits)
    ∙ sym (
    ap (λ k. overwritten (first ++ joined pages) k piece) place
    ∙ overwritten-append_right first (joined pages) piece (4096 * page + at)
    )

pub length-joined : (pages : List (List ℕ)) → ArePages pages → length (joined pages) ≡ 4096 * length pages
length-joined [] are = refl
length-joined (first ∷ pages) are = omega (
  arith,
  length-append first (joined pages),
  All-head (λ page. length page ≡ 4096) first pages are,
  length-joined pages (All-tail (λ page. length page ≡ 4096) first pages are),
)

pub size_of_page : (pages : List (List ℕ)) (page : ℕ) → ArePages pages → page < length pages → length (page_in pages page) ≡ 4096
size_of_page [] page are there = absurd (omega arith)
size_of_page (first ∷ pages) zero are there = All-head (λ page. length page ≡ 4096) first pages are
size_of_page (first ∷ pages) (suc page) are there =
    size_of_page pages page (All-tail (λ page. length page ≡ 4096) first pages are) (omega arith)

-- pages stay pages
pub are_pages-with_piece : (pages : List (List ℕ)) (page at : ℕ) (piece : List ℕ) → ArePages pages → page < length pages
    → at + length piece ≤ 4096 → ArePages (with_piece pages page at piece)
are_pages-with_piece pages page at piece are there fits =
    let size = size_of_page pages page are there in
    All-set (λ page. length page ≡ 4096) pages page (overwritten (page_in pages page) at piece)
    (length-overwritten (page_in pages page) piece at (omega arith) ∙ size) are

-- ---- pages in one vector

pub length-pages_in : (n : ℕ) (bytes : List ℕ) → length (pages_in n bytes) ≡ n
length-pages_in zero bytes = refl
length-pages_in (suc n) bytes = ap suc (length-pages_in n (drop 4096 bytes))

pub joined-pages_in : (n : ℕ) (bytes : List ℕ) → length bytes ≡ 4096 * n → joined (pages_in n bytes) ≡ bytes
joined-pages_in zero [] size = refl
joined-pages_in zero (byte ∷ bytes) size = absurd (omega arith)
joined-pages_in (suc n) bytes size =
    ap (λ (rest : List ℕ). take 4096 bytes ++ rest) (joined-pages_in n (drop 4096 bytes) (omega (arith, length-drop 4096 bytes)))
    ∙ take-append-drop 4096 bytes

pub are_pages-pages_in : (n : ℕ) (bytes : List ℕ) → length bytes ≡ 4096 * n → ArePages (pages_in n bytes)
are_pages-pages_in zero bytes size = All-nil (λ page. length page ≡ 4096)
are_pages-pages_in (suc n) bytes size =
    All-cons (λ page. length page ≡ 4096) (take 4096 bytes) (pages_in n (drop 4096 bytes)) (omega (arith, length-take 4096 bytes))
    (are_pages-pages_in n (drop 4096 bytes) (omega (arith, length-drop 4096 bytes)))

pub pages_in-joined : (pages : List (List ℕ)) → ArePages pages → pages_in (length pages) (joined pages) ≡ pages
pages_in-joined [] are = refl
pages_in-joined (first ∷ pages) are =
    let size : length first ≡ 4096 = All-head (λ page. length page ≡ 4096) first pages are in
    let front : take 4096 (first ++ joined pages) ≡ first =
    take-append-le 4096 first (joined pages) (omega arith) ∙ ap (λ n. take n first) (sym size) ∙ take-length first in
    let rest : drop (length first + 0) (first ++ joined pages) ≡ joined pages = drop-append-add first (joined pages) 0 in
    let later = pages_in-joined pages (All-tail (λ page. length page ≡ 4096) first pages are) in
    let others : pages_in (length pages) (drop 4096 (first ++ joined pages)) ≡ pages =
    ap (λ k. pages_in (length pages) (drop k (first ++ joined pages))) (sym (add-zero (length first) ∙ size))
    ∙ ap (pages_in (length pages)) rest ∙ later in
    λ i. front i ∷ others i

-- ---- numbers

abbrev pub AreSmall : List ℕ → Type 0
AreSmall bytes = (i : ℕ) → get_or bytes i 0 < 256

pub small-drop : (n : ℕ) (bytes : List ℕ) → AreSmall bytes → AreSmall (drop n bytes)
small-drop zero bytes small = small
small-drop (suc n) [] small = small
small-drop (suc n) (byte ∷ bytes) small = small-drop n bytes (λ i. small (suc i))

pub small-take : (n : ℕ) (bytes : List ℕ) → AreSmall bytes → AreSmall (take n bytes)
small-take zero bytes small i = lit< tt
small-take (suc n) [] small i = lit< tt
small-take (suc n) (byte ∷ bytes) small zero = small 0
small-take (suc n) (byte ∷ bytes) small (suc i) = small-take n bytes (λ i. small (suc i)) i

-- a number is small where its bytes are
pub number_of-lt : (bytes : List ℕ) → AreSmall bytes → number_of bytes < 256 ^ length bytes
number_of-lt [] small = lit< tt
number_of-lt (byte ∷ bytes) small =
    let here : byte < 256 = small 0 in
    let rest = number_of-lt bytes (λ i. small (suc i)) in
    let power : 256 ^ suc (length bytes) ≡ 256 * 256 ^ length bytes = pow-succ' 256 (length bytes) in
    omega arith

pub number_in-lt : (bytes : List ℕ) (at n : ℕ) → AreSmall bytes → at + n ≤ length bytes → number_in bytes at n < 256 ^ n
number_in-lt bytes at n small fits =
    let long : length (take n (drop at bytes)) ≡ n = omega (arith, length-take n (drop at bytes), length-drop at bytes) in
    let P : ℕ → Type 0 = λ k. number_in bytes at n < 256 ^ k in
    subst P long (number_of-lt (take n (drop at bytes)) (small-take n (drop at bytes) (small-drop at bytes small)))

-- a number is that of its front, and past it that of the rest
pub number_of-append : (front rest : List ℕ) → number_of (front ++ rest) ≡ number_of front + 256 ^ length front * number_of rest
number_of-append [] rest = omega arith
number_of-append (byte ∷ front) rest =
    let power : 256 ^ suc (length front) ≡ 256 * 256 ^ length front = pow-succ' 256 (length front) in
    let later = number_of-append front rest in
    let times : 256 ^ suc (length front) * number_of rest ≡ 256 * (256 ^ length front * number_of rest) =
    ap (λ m. m * number_of rest) power ∙ mul_assoc 256 (256 ^ length front) (number_of rest) in
    omega (arith, times, later)

-- the number in n bytes is that in the first k of them, and that in the others past it
pub number_in-split : (bytes : List ℕ) (at k n : ℕ) → at + (k + n) ≤ length bytes
    → number_in bytes at (k + n) ≡ number_in bytes at k + 256 ^ k * number_in bytes (at + k) n
number_in-split bytes at k n fits =
    let long : length (take k (drop at bytes)) ≡ k = omega (arith, length-take k (drop at bytes), length-drop at bytes) in
    let parts : take (k + n) (drop at bytes) ≡ take k (drop at bytes) ++ take n (drop (at + k) bytes) =
    take-add k n (drop at bytes) ∙ ap (λ (rest : List ℕ). take k (drop at bytes) ++ take n rest) (drop-drop k at bytes) in
    ap number_of parts ∙ number_of-append (take k (drop at bytes)) (take n (drop (at + k) bytes))
    ∙ ap (λ j. number_in bytes at k + 256 ^ j * number_in bytes (at + k) n) long
