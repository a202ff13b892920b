use Rattle.std.proofs.Common.{◌≡◌, ◌++◌, drop, map, option_map}
use Rattle.mm_text.specs.LineReaderInside.{pairs_in}
use Rattle.mm_text.proofs.line_reader.read_pairs.Given as goal

-- the pairs so far, with those that are left, are all
abbrev pub invariant-loop-word : goal.invariant-loop-word
invariant-loop-word l =
    option_map (λ more. l.pairs ++ more) (pairs_in (map (λ word. word.now) (drop l.word-index l.words))) ≡ pairs_in (map (λ word. word.now) l.words)
