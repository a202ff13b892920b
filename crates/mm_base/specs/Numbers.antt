-- Numbers as bytes, the lowest byte first, and bytes as words of 64 bits.
use Rattle.std.specs.Prelude.{ℕ, zero, suc, ◌+◌, ◌*◌, ◌/◌, Bool, ◌==◌, not, bit_and, List, [], ◌∷◌, ◌++◌, take, drop}
use Rattle.std.specs.Prelude.{length}
use Rattle.std.specs.Int.{to_le_bytes, w64}

-- the number that bytes spell, the lowest byte first
abbrev pub number_of : List ℕ → ℕ
number_of [] = 0
number_of (byte ∷ bytes) = byte + 256 * number_of bytes

-- the number in n bytes from a place on
abbrev pub number_in : List ℕ → ℕ → ℕ → ℕ
number_in bytes at n = number_of (take n (drop at bytes))

-- whether a number has one of these bits
abbrev pub has_bit : ℕ → ℕ → Bool
has_bit number mask = not (bit_and number mask == 0)

-- the eight bytes of a word
abbrev pub bytes_of_word : ℕ → List ℕ
bytes_of_word word = to_le_bytes w64 word

-- the bytes of words, one word after another
abbrev pub bytes_of_words : List ℕ → List ℕ
bytes_of_words [] = []
bytes_of_words (word ∷ words) = bytes_of_word word ++ bytes_of_words words

-- how many words n bytes fill
abbrev pub words_for : ℕ → ℕ
words_for bytes = (bytes + 7) / 8

-- word j of bytes, where a byte past their end counts as 0
abbrev pub word_in : List ℕ → ℕ → ℕ
word_in bytes j = number_of (take 8 (drop (8 * j) bytes))

-- the first n words of bytes
abbrev pub first_words : ℕ → List ℕ → List ℕ
first_words zero bytes = []
first_words (suc n) bytes = number_of (take 8 bytes) ∷ first_words n (drop 8 bytes)

-- the words that bytes fill, the last one filled with zeros
abbrev pub words_of_bytes : List ℕ → List ℕ
words_of_bytes bytes = first_words (words_for (length bytes)) bytes

-- the n low bytes of a number below 2 ^ 64
abbrev pub low_bytes : ℕ → ℕ → List ℕ
low_bytes n number = take n (bytes_of_word number)

-- bytes, with a piece written over those from a place on
abbrev pub overwritten : List ℕ → ℕ → List ℕ → List ℕ
overwritten bytes at piece = take at bytes ++ piece ++ drop (at + length piece) bytes
