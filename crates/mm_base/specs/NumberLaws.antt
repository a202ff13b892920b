-- Bytes and words hold the same: what one form is turned into, the other turns back.
use Rattle.std.specs.Prelude.{◌≡◌, ℕ, ◌^◌, ◌<◌, List, take, length, All}
use Rattle.mm_base.specs.Numbers.{bytes_of_words, words_of_bytes}

-- words below 2 ^ 64 are the words of their bytes
abbrev pub WordsComeBack : Type 0
WordsComeBack = (words : List ℕ) → All (λ word. word < 2 ^ 64) words → words_of_bytes (bytes_of_words words) ≡ words

-- bytes are the front of the bytes of their words, the last of which is filled with zeros
abbrev pub BytesComeBack : Type 0
BytesComeBack =
    (bytes : List ℕ)
    → All (λ byte. byte < 256) bytes
    → take (length bytes) (bytes_of_words (words_of_bytes bytes)) ≡ bytes
