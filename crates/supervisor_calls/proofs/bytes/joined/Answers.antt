use Rattle.std.proofs.Common.{◌∙◌, ◌++◌, ap, List, ℕ}
use Rattle.supervisor_calls.proofs.ByteLemmas.{joined_is}
use Rattle.supervisor_calls.proofs.bytes.joined.Goals as goal

pub returns : goal.returns
returns c =
    joined_is c.args.first.now c.args.second.now c.split_at.result.0.now c.put.new.bytes c.put-2.new.bytes c.put-3.new.bytes c.told-first c.told-second c.split_at.ensures.front_len
    c.put.ensures c.put-2.ensures c.put-3.ensures
    ∙ ap (λ (third : List ℕ). c.args.first.now ++ c.args.second.now ++ third) c.split_at.ensures.front
