use Rattle.std.proofs.Common.{◌≡◌, List, ℕ, take, IfOk, subst, arith}
use Rattle.ebc_decode.specs.declared.ins.Ins.{Ins}
use Rattle.ebc_decode.specs.Bytes.{little}
use Rattle.ebc_decode.specs.Reading.{IsInstruction, TellsEach}
use Rattle.ebc_decode.specs.ReadingInside.{number_in}
use Rattle.ebc_decode.proofs.DecodingLemmas.{taken, tells_begun}
use Rattle.ebc_decode.proofs.FetchLemmas.{fetched}
use Rattle.ebc_decode.proofs.reading.decode_fetched.Goals as goal

same : (c : goal.After-decode_words)
    → little c.args.n (number_in c.word_at.result c.word_at-2.result c.from_le_bytes-third.result) ≡ take c.args.n c.args.bytes.now
same c =
    let third = c.from_le_bytes-third.ensures in
    fetched c.args.bytes.now c.args.n c.word_at.result c.word_at-2.result c.from_le_bytes-third.result
    c.told-bytes c.fits-bytes c.requires c.word_at.ensures c.word_at-2.ensures (omega arith)

pub returns-clause-found : goal.returns-clause-found
returns-clause-found c =
    subst (λ (bytes : List ℕ). IfOk c.decode_words.result (λ (told : Ins × ℕ). IsInstruction bytes told.0 told.1))
    (same c) c.decode_words.ensures.found

pub returns-clause-only : goal.returns-clause-only
returns-clause-only c =
    subst (λ (bytes : List ℕ). TellsEach bytes c.decode_words.result) (same c) c.decode_words.ensures.only

pub returns-clause-value : goal.returns-clause-value
returns-clause-value c =
    tells_begun (take c.args.n c.args.bytes.now) c.decode_words.result (taken c.args.n c.args.bytes.now c.fits-bytes)
    (returns-clause-found c) (returns-clause-only c)
