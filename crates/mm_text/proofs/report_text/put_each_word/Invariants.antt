use Rattle.std.proofs.Common.{◌≡◌, ◌++◌, drop}
use Rattle.std.specs.List.{flat_map}
use Rattle.hex.specs.Hex.{encode_lower}
use Rattle.mm_base.specs.Numbers.{bytes_of_word}
use Rattle.mm_text.proofs.report_text.put_each_word.Given as goal

-- the text so far, with the bytes of the words that are left, is the whole text
abbrev pub invariant-loop-word : goal.invariant-loop-word
invariant-loop-word l =
    l.page ++ flat_map (λ word. encode_lower (bytes_of_word word)) (drop l.word-index l.words)
    ≡ l.fn.page ++ flat_map (λ word. encode_lower (bytes_of_word word)) l.words
