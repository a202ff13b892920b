use Rattle.std.proofs.Common.{◌≡◌, length, map}
use Rattle.mm_text.specs.ScriptReaderInside.{HasRead, IsSmall}
use Rattle.mm_text.proofs.script_reader.read_lines.Given as goal

-- the lines so far were read
abbrev pub invariant-loop-line : goal.invariant-loop-line
invariant-loop-line l = record {
  next : (goal.iterator-loop-line).can_next l.line-iterator;
  finite : (goal.iterator-loop-line).is_finite l.line-iterator;
  number : l.number ≡ length l.yielded;
  small : IsSmall l.builder;
  read : HasRead l.handlers (map (λ line. line.now) l.yielded) l.builder;
}
