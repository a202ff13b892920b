use Rattle.std.proofs.Common.{List, ℕ, take, ap, ◌∙◌, arith}
use Rattle.std.proofs.lemmas.List.{length-drop}
use Rattle.ebc_machine.proofs.FlatLemmas.{whole_front}
use Rattle.ebc_machine.proofs.flat_bus.front.Goals as goal

pub returns : goal.returns
returns c =
    let many = c.if-bytes-place-lt-FETCHED.false in
    let size = length-drop c.args.place c.args.bytes.now in
    whole_front c.args.bytes.now c.copy_from_slice.new.self c.args.place
    (c.copy_from_slice.ensures.after ∙ c.split_at-2.ensures.front ∙ ap (λ (rest : List ℕ). take 18 rest) c.split_at.ensures.back)
    (omega arith)
