use Rattle.std.proofs.Common.{◌≡◌, ◌++◌, take, drop, option_map}
use Rattle.mm_text.specs.LineReaderInside.{split_at as split_of}
use Rattle.mm_text.proofs.fields.split_at.Given as goal

-- what stands in front of a place goes in front of what is found from there on
abbrev pub invariant-loop-i : goal.invariant-loop-i
invariant-loop-i l = option_map (λ p. (take l.i l.text ++ p.0, p.1)) (split_of l.stop (drop l.i l.text)) ≡ split_of l.stop l.text
