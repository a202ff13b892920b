use Rattle.std.proofs.Common.{◌≡◌, vec_len}
use Rattle.mm_base.proofs.prepared.blank_records.Given as goal

abbrev pub invariant-loop : goal.invariant-loop
invariant-loop l = vec_len l.blanks ≡ l.counter
