-- Numbers and words in bytes.
use Rattle.std.proofs.Common.{◌≡◌, ℕ, zero, suc, ◌+◌, ◌-◌, ◌*◌, ◌≤◌, ◌<◌, ◌^◌, List, [], ◌∷◌, ◌++◌, length, take, drop}
use Rattle.std.proofs.Common.{replicate, get_or, All, refl, sym, ap, ◌∙◌, subst, append_assoc, arith, lit<, length-append}
use Rattle.std.proofs.Math.Seq.{drop-cons}
use Rattle.std.proofs.lemmas.List.{length-replicate, take_all, take_at, nil_from_length}
use Rattle.std.proofs.lemmas.List.Elements.{All-head, All-tail, All-append, All-replicate, All-take, All-drop}
use Rattle.std.proofs.lemmas.Nat.{le_bytes_8, from_le_bytes-to_le_bytes_8}
use Rattle.byteorder.specs.Endian.{little_from, little_number}
use Rattle.mm_base.specs.Numbers.{number_of, bytes_of_word, bytes_of_words, words_for, first_words, words_of_bytes}

-- the number that is read place by place is the one that the bytes spell
little_from-number_of : (n i : ℕ) (xs : List ℕ) → i + n ≤ length xs → little_from i n xs ≡ number_of (take n (drop i xs))
little_from-number_of zero i xs h = refl
little_from-number_of (suc n) i xs h =
    let within : i < length xs = omega arith in
    let rest : suc i + n ≤ length xs = omega arith in
    rw (drop-cons xs i 0) (ap (λ m. get_or xs i 0 + 256 * m) (little_from-number_of n (suc i) xs rest))

-- the same from the front
pub little_number-number_of : (n : ℕ) (xs : List ℕ) → n ≤ length xs → little_number n xs ≡ number_of (take n xs)
little_number-number_of n xs h = little_from-number_of n 0 xs (omega arith)

-- ---- one word

-- eight bytes, each at its worth
spelled_8 : (a b c d e f g h : ℕ)
    → number_of (a ∷ b ∷ c ∷ d ∷ e ∷ f ∷ g ∷ h ∷ [])
    ≡ a + b * 256 + c * 65536 + d * 16777216 + e * 4294967296 + f * 1099511627776 + g * 281474976710656 + h * 72057594037927936
spelled_8 a b c d e f g h = omega arith

-- a byte at any place is small, also past the end, where it is 0
pub small_at : (xs : List ℕ) → All (λ byte. byte < 256) xs → (i : ℕ) → get_or xs i 0 < 256
small_at [] small i = lit< tt
small_at (x ∷ xs) small zero = All-head (λ byte. byte < 256) x xs small
small_at (x ∷ xs) small (suc i) = small_at xs (All-tail (λ byte. byte < 256) x xs small) i

-- a word is the number that its bytes spell
pub number_of-bytes_of_word : (word : ℕ) → word < 2 ^ 64 → number_of (bytes_of_word word) ≡ word
number_of-bytes_of_word word fits = spelled_8 _ _ _ _ _ _ _ _ ∙ from_le_bytes-to_le_bytes_8 word fits

-- eight bytes are those of the word that they spell
pub bytes_of_word-number_of : (bytes : List ℕ) → length bytes ≡ 8 → All (λ byte. byte < 256) bytes → bytes_of_word (number_of bytes) ≡ bytes
bytes_of_word-number_of ([]) long small = absurd (omega arith)
bytes_of_word-number_of (a ∷ []) long small = absurd (omega arith)
bytes_of_word-number_of (a ∷ b ∷ []) long small = absurd (omega arith)
bytes_of_word-number_of (a ∷ b ∷ c ∷ []) long small = absurd (omega arith)
bytes_of_word-number_of (a ∷ b ∷ c ∷ d ∷ []) long small = absurd (omega arith)
bytes_of_word-number_of (a ∷ b ∷ c ∷ d ∷ e ∷ []) long small = absurd (omega arith)
bytes_of_word-number_of (a ∷ b ∷ c ∷ d ∷ e ∷ f ∷ []) long small = absurd (omega arith)
bytes_of_word-number_of (a ∷ b ∷ c ∷ d ∷ e ∷ f ∷ g ∷ []) long small = absurd (omega arith)
bytes_of_word-number_of (a ∷ b ∷ c ∷ d ∷ e ∷ f ∷ g ∷ h ∷ []) long small =
    let bytes : List ℕ = a ∷ b ∷ c ∷ d ∷ e ∷ f ∷ g ∷ h ∷ [] in
    le_bytes_8 bytes _ long (small_at bytes small) (spelled_8 a b c d e f g h)
bytes_of_word-number_of (a ∷ b ∷ c ∷ d ∷ e ∷ f ∷ g ∷ h ∷ i ∷ rest) long small = absurd (omega arith)

-- zeros after bytes change nothing of the number
number_of-zeros : (n : ℕ) → number_of (replicate n 0) ≡ 0
number_of-zeros zero = refl
number_of-zeros (suc n) = omega (arith, number_of-zeros n)

number_of-filled : (xs : List ℕ) (n : ℕ) → number_of (xs ++ replicate n 0) ≡ number_of xs
number_of-filled [] n = number_of-zeros n
number_of-filled (x ∷ xs) n = ap (λ m. x + 256 * m) (number_of-filled xs n)

-- the bytes of the word that at most eight bytes spell are these, and zeros
pub bytes_of_word-filled : (bytes : List ℕ) → length bytes ≤ 8 → All (λ byte. byte < 256) bytes
    → bytes_of_word (number_of bytes) ≡ bytes ++ replicate (8 - length bytes) 0
bytes_of_word-filled bytes short small =
    let zeros : List ℕ = replicate (8 - length bytes) 0 in
    let long : length (bytes ++ zeros) ≡ 8 = omega (arith, length-append bytes zeros, length-replicate {A = ℕ} (8 - length bytes) 0) in
    ap bytes_of_word (sym (number_of-filled bytes (8 - length bytes)))
    ∙ bytes_of_word-number_of (bytes ++ zeros) long
    (All-append (λ byte. byte < 256) bytes zeros small (All-replicate (λ byte. byte < 256) (8 - length bytes) 0 (lit< tt)))

-- ---- many words

-- a word has eight bytes
pub length-bytes_of_words : (words : List ℕ) → length (bytes_of_words words) ≡ 8 * length words
length-bytes_of_words [] = refl
length-bytes_of_words (word ∷ words) = omega (arith, length-bytes_of_words words)

-- the bytes of words that stand after others
pub bytes_of_words-append : (words more : List ℕ) → bytes_of_words (words ++ more) ≡ bytes_of_words words ++ bytes_of_words more
bytes_of_words-append [] more = refl
bytes_of_words-append (word ∷ words) more = ap (λ rest. bytes_of_word word ++ rest) (bytes_of_words-append words more)

length-first_words : (n : ℕ) (bytes : List ℕ) → length (first_words n bytes) ≡ n
length-first_words zero bytes = refl
length-first_words (suc n) bytes = ap suc (length-first_words n (drop 8 bytes))

-- bytes have as many words as they fill
pub length-words_of_bytes : (bytes : List ℕ) → length (words_of_bytes bytes) ≡ words_for (length bytes)
length-words_of_bytes bytes = length-first_words (words_for (length bytes)) bytes

first_words-bytes_of_words : (words : List ℕ) → All (λ word. word < 2 ^ 64) words
    → first_words (length words) (bytes_of_words words) ≡ words
first_words-bytes_of_words [] fit = refl
first_words-bytes_of_words (word ∷ words) fit =
    let here = number_of-bytes_of_word word (All-head (λ word. word < 2 ^ 64) word words fit) in
    let there = first_words-bytes_of_words words (All-tail (λ word. word < 2 ^ 64) word words fit) in
    λ i. here i ∷ there i

-- words are those of their bytes
pub words_of_bytes-bytes_of_words : (words : List ℕ) → All (λ word. word < 2 ^ 64) words → words_of_bytes (bytes_of_words words) ≡ words
words_of_bytes-bytes_of_words words fit =
    let many : words_for (length (bytes_of_words words)) ≡ length words = omega (arith, length-bytes_of_words words) in
    ap (λ n. first_words n (bytes_of_words words)) many ∙ first_words-bytes_of_words words fit

-- at most eight bytes are the front of the word that they spell
front_of_word : (bytes rest : List ℕ) → length bytes ≤ 8 → All (λ byte. byte < 256) bytes
    → take (length bytes) (bytes_of_word (number_of bytes) ++ rest) ≡ bytes
front_of_word bytes rest short small =
    let zeros : List ℕ = replicate (8 - length bytes) 0 in
    ap (λ (word : List ℕ). take (length bytes) (word ++ rest)) (bytes_of_word-filled bytes short small)
    ∙ ap (take (length bytes)) (append_assoc bytes zeros rest) ∙ take_at bytes (zeros ++ rest) (length bytes) refl

front_of_words : (n : ℕ) (bytes : List ℕ) → length bytes ≤ 8 * n → All (λ byte. byte < 256) bytes
    → take (length bytes) (bytes_of_words (first_words n bytes)) ≡ bytes
front_of_words zero bytes enough small =
    let none : bytes ≡ [] = nil_from_length bytes (omega arith) in
    let P : List ℕ → Type 0 = λ bs. take (length bs) [] ≡ bs in
    subst P (sym none) refl
front_of_words (suc n) (a ∷ b ∷ c ∷ d ∷ e ∷ f ∷ g ∷ h ∷ rest) enough small =
    let front : List ℕ = a ∷ b ∷ c ∷ d ∷ e ∷ f ∷ g ∷ h ∷ [] in
    let here = bytes_of_word-number_of front refl (All-take (λ byte. byte < 256) 8 (front ++ rest) small) in
    let there = front_of_words n rest (omega arith) (All-drop (λ byte. byte < 256) 8 (front ++ rest) small) in
    ap (λ (word : List ℕ). take (length (front ++ rest)) (word ++ bytes_of_words (first_words n rest))) here
    ∙ ap (λ (bytes : List ℕ). front ++ bytes) there
front_of_words (suc n) bytes enough small =
    let all : take 8 bytes ≡ bytes = take_all 8 bytes (omega arith) in
    front_of_word bytes (bytes_of_words (first_words n (drop 8 bytes))) (omega arith) small

-- bytes are the front of the bytes of their words
pub take-bytes_of_words : (bytes : List ℕ) → All (λ byte. byte < 256) bytes
    → take (length bytes) (bytes_of_words (words_of_bytes bytes)) ≡ bytes
take-bytes_of_words bytes small = front_of_words (words_for (length bytes)) bytes (omega arith) small
