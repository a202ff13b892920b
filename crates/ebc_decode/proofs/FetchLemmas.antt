-- Bytes that were fetched, and bytes of any length.
use Rattle.std.proofs.Common.{◌≡◌, ℕ, ◌+◌, ◌-◌, ◌*◌, ◌/◌, ◌%◌, ◌^◌, ◌<◌, ◌≤◌, min, List, [], ◌∷◌, ◌++◌, length, take, drop, get_or, Result, Ok, Err, IfOk, refl, sym, ap, ◌∙◌, append_assoc, length-append, arith}
use Rattle.std.proofs.lemmas.List.{take_at, take-take, take-append-drop, drop-drop, drop_more, drop_all, length-drop, length-take-le}
use Rattle.ebc_decode.specs.declared.ins.Ins.{Ins}
use Rattle.ebc_decode.specs.declared.reading.EncodingFault.{EncodingFault}
use Rattle.ebc_decode.specs.Bytes.{little, BeginsWith}
use Rattle.ebc_decode.specs.Spelling.{spelling_of}
use Rattle.ebc_decode.specs.Reading.{IsInstruction, TellsEach}
use Rattle.ebc_decode.specs.ReadingInside.{number_of, number_in, head_in}
use Rattle.ebc_decode.proofs.ByteLemmas.{length-little, little-add, little-number_of, number_of-append}
use Rattle.ebc_decode.specs.Decoding.{head_of, tail_of}
use Rattle.ebc_decode.proofs.WordLemmas.{two_to_eighteen}

-- ---- words

-- the first two bytes of words
pub head_of-words : (first second third : ℕ)
    → head_in (first % 256) (first / 256 % 256) ≡ head_of (number_in first second third)
head_of-words first second third =
    let low : first % 256 ≡ number_in first second third % 256 = omega arith in
    let high : first / 256 % 256 ≡ number_in first second third / 256 % 256 = omega arith in
    λ i. head_in (low i) (high i)

-- the number after them
pub tail_of-words : (first second third : ℕ)
    → first / 65536 + second % 65536 * 281474976710656 + 2 ^ 64 * (second / 65536 + third * 281474976710656)
    ≡ tail_of (number_in first second third)
tail_of-words first second third = omega arith

-- the words of 18 bytes spell their number
number_of-words : (bytes : List ℕ)
    → length bytes ≡ 18
    → number_in (number_of (take 8 bytes)) (number_of (take 8 (drop 8 bytes))) (number_of (drop 16 bytes)) ≡ number_of bytes
number_of-words bytes many =
    let one : length (take 8 bytes) ≡ 8 = length-take-le 8 bytes (omega arith) in
    let left : length (drop 8 bytes) ≡ 10 = let e = length-drop 8 bytes in omega arith in
    let other : length (take 8 (drop 8 bytes)) ≡ 8 = length-take-le 8 (drop 8 bytes) (omega arith) in
    let last : drop 8 (drop 8 bytes) ≡ drop 16 bytes = drop-drop 8 8 bytes in
    let whole = ap (λ (l : List ℕ). number_of l) (sym (take-append-drop 8 bytes)) ∙ number_of-append (take 8 bytes) (drop 8 bytes) in
    let rest =
    ap (λ (l : List ℕ). number_of l) (sym (take-append-drop 8 (drop 8 bytes)))
    ∙ number_of-append (take 8 (drop 8 bytes)) (drop 8 (drop 8 bytes)) in
    let p : 256 ^ length (take 8 bytes) * number_of (drop 8 bytes) ≡ 2 ^ 64 * number_of (drop 8 bytes) =
    ap (λ (k : ℕ). 256 ^ k * number_of (drop 8 bytes)) one in
    let q : 256 ^ length (take 8 (drop 8 bytes)) * number_of (drop 8 (drop 8 bytes)) ≡ 2 ^ 64 * number_of (drop 8 (drop 8 bytes)) =
    ap (λ (k : ℕ). 256 ^ k * number_of (drop 8 (drop 8 bytes))) other in
    let r = ap (λ (l : List ℕ). number_of l) last in
    omega arith

-- the last two of 18 bytes
last_two : (bytes : List ℕ) → length bytes ≡ 18 → number_of (drop 16 bytes) ≡ get_or bytes 16 0 + 256 * get_or bytes 17 0
last_two bytes many =
    let one = drop_more bytes 16 0 (omega arith) in
    let other = drop_more bytes 17 0 (omega arith) in
    let none = drop_all 18 bytes (omega arith) in
    let all : drop 16 bytes ≡ get_or bytes 16 0 ∷ get_or bytes 17 0 ∷ [] =
    one ∙ (λ i. get_or bytes 16 0 ∷ (other ∙ (λ j. get_or bytes 17 0 ∷ none j)) i) in
    ap (λ (l : List ℕ). number_of l) all ∙ (omega arith)

-- the first n of 18 bytes are those of the words
pub fetched : (bytes : List ℕ) (n first second third : ℕ)
    → length bytes ≡ 18
    → ((i : ℕ) → get_or bytes i 0 < 256)
    → n ≤ 18
    → first ≡ number_of (take 8 bytes)
    → second ≡ number_of (take 8 (drop 8 bytes))
    → third ≡ get_or bytes 16 0 + 256 * get_or bytes 17 0
    → little n (number_in first second third) ≡ take n bytes
fetched bytes n first second third many few within one other last =
    let number = number_of bytes in
    let same : number_in first second third ≡ number =
    (λ i. number_in (one i) (other i) ((last ∙ sym (last_two bytes many)) i)) ∙ number_of-words bytes many in
    let own : little 18 number ≡ bytes = ap (λ (k : ℕ). little k number) (sym many) ∙ little-number_of bytes few in
    let split : 18 ≡ n + (18 - n) = omega arith in
    let cut : bytes ≡ little n number ++ little (18 - n) (number / 256 ^ n) =
    sym own ∙ ap (λ (k : ℕ). little k number) split ∙ little-add n (18 - n) number in
    ap (λ (m : ℕ). little n m) same
    ∙ sym (ap (λ (l : List ℕ). take n l) cut ∙ take_at (little n number) (little (18 - n) (number / 256 ^ n)) n (length-little n number))

-- ---- bytes of any length

-- What the first of the bytes begin with, all of them do,
pub whole_found : (k : ℕ) (bytes : List ℕ) (ins : Ins) (n : ℕ) → IsInstruction (take k bytes) ins n → IsInstruction bytes ins n
whole_found k bytes ins n is =
    record {
      lawful = is.lawful;
      begins = record {
        rest = is.begins.rest ++ drop k bytes;
        are =
            sym (take-append-drop k bytes) ∙ ap (λ (l : List ℕ). l ++ drop k bytes) is.begins.are
            ∙ append_assoc (spelling_of ins) is.begins.rest (drop k bytes);
      };
      size = is.size;
    }

begins_front : (k : ℕ) (bytes front : List ℕ) → length front ≤ k → BeginsWith bytes front → BeginsWith (take k bytes) front
begins_front k bytes front within begins =
    let m = length front in
    let own : take m (take k bytes) ≡ front =
    take-take m k bytes within ∙ ap (λ (l : List ℕ). take m l) begins.are ∙ take_at front begins.rest m refl in
    record {
      rest = drop m (take k bytes);
      are = sym (take-append-drop m (take k bytes)) ∙ ap (λ (l : List ℕ). l ++ drop m (take k bytes)) own;
    }

-- and the other way round, where they are 18 or all.
pub whole_told : (k : ℕ) (bytes : List ℕ) (told : Result (Ins × ℕ) EncodingFault)
    → k ≡ min (length bytes) 18
    → TellsEach (take k bytes) told
    → TellsEach bytes told
whole_told k bytes told many each instruction lawful begins =
    let bounds = two_to_eighteen instruction lawful in
    let e = ap (λ (l : List ℕ). length l) begins.are ∙ length-append (spelling_of instruction) begins.rest in
    each instruction lawful (begins_front k bytes (spelling_of instruction) (omega arith) begins)

pub whole_ok : (k : ℕ) (bytes : List ℕ) (told : Result (Ins × ℕ) EncodingFault)
    → IfOk told (λ (pair : Ins × ℕ). IsInstruction (take k bytes) pair.0 pair.1)
    → IfOk told (λ (pair : Ins × ℕ). IsInstruction bytes pair.0 pair.1)
whole_ok k bytes (Ok pair) is = whole_found k bytes pair.0 pair.1 is
whole_ok k bytes (Err fault) is = tt
