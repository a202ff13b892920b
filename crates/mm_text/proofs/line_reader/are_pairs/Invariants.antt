use Rattle.std.proofs.Common.{◌≡◌, drop, map}
use Rattle.std.specs.List.{list_all}
use Rattle.mm_text.specs.LineReaderInside.{has_equals}
use Rattle.mm_text.proofs.line_reader.are_pairs.Given as goal

-- all words have one where those that are left do
abbrev pub invariant-loop-word : goal.invariant-loop-word
invariant-loop-word l = list_all has_equals (map (λ word. word.now) (drop l.word-index l.words)) ≡ list_all has_equals (map (λ word. word.now) l.words)
