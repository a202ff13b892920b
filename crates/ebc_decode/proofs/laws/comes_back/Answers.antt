use Rattle.std.proofs.Common.{◌≡◌, [], replicate, ◌-◌, take, sym, ◌∙◌}
use Rattle.std.proofs.lemmas.List.{take_at, append-nil}
use Rattle.ebc_decode.specs.Spelling.{spelling_of}
use Rattle.ebc_decode.specs.Reading.{size_of}
use Rattle.ebc_decode.proofs.laws.comes_back.Goals as goal

pub returns : goal.returns
returns c =
    let ins = c.args.ins.now in
    let own : take c.encode-n.result.1 c.encode-n.result.0 ≡ spelling_of ins =
    (λ i. take (c.encode-n.ensures.length i) (c.encode-n.ensures.bytes i))
    ∙ take_at (spelling_of ins) (replicate (18 - size_of ins) 0) (size_of ins) (λ i. size_of ins) in
    c.decode.ensures.only ins c.requires (record { rest = []; are = own ∙ sym (append-nil (spelling_of ins)) })
