use Rattle.std.proofs.Common.{List, ℕ, IfOk, subst, ◌∙◌}
use Rattle.ebc_decode.specs.declared.ins.Ins.{Ins}
use Rattle.ebc_decode.specs.Reading.{IsInstruction, TellsEach}
use Rattle.ebc_decode.proofs.FetchLemmas.{whole_told, whole_ok}
use Rattle.ebc_decode.proofs.reading.decode.Goals as goal

pub returns-clause-found : goal.returns-clause-found
returns-clause-found c =
    whole_ok c.min.result c.args.bytes.now c.decode_fetched.result
    (subst (λ (bytes : List ℕ). IfOk c.decode_fetched.result (λ (told : Ins × ℕ). IsInstruction bytes told.0 told.1))
    (c.padded.ensures ∙ c.split_at.ensures.front) c.decode_fetched.ensures.found)

pub returns-clause-only : goal.returns-clause-only
returns-clause-only c =
    whole_told c.min.result c.args.bytes.now c.decode_fetched.result c.min.ensures
    (subst (λ (bytes : List ℕ). TellsEach bytes c.decode_fetched.result)
    (c.padded.ensures ∙ c.split_at.ensures.front) c.decode_fetched.ensures.only)
