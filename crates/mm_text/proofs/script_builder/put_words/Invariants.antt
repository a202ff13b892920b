use Rattle.std.proofs.Common.{◌≡◌, ◌+◌, ◌-◌, ◌*◌, ◌++◌, length, drop}
use Rattle.mm_base.specs.Numbers.{words_for, first_words, words_of_bytes}
use Rattle.mm_text.specs.ScriptText.{pokes_from}
use Rattle.mm_text.proofs.script_builder.put_words.Given as goal

-- the pokes of the words that are left are those that are missing
abbrev pub invariant-loop-j : goal.invariant-loop-j
invariant-loop-j l =
    l.events ++ pokes_from l.lane (2 + l.j) (first_words (words_for (length l.bytes) - l.j) (drop (8 * l.j) l.bytes))
    ≡ l.fn.events ++ pokes_from l.lane 2 (words_of_bytes l.bytes)
