use Rattle.std.proofs.Common.{◌+◌, ◌∙◌, arith}
use Rattle.ebc_decode.specs.Spelling.{spelling_of}
use Rattle.ebc_decode.proofs.WriteLemmas.{written, written_length}
use Rattle.ebc_decode.proofs.writing.encode.Goals as goal

pub returns-clause-bytes : goal.returns-clause-bytes
returns-clause-bytes c =
    let parts = c.parts_of-parts.result in
    c.all_bytes.ensures
    ∙ written parts.one parts.other (spelling_of c.args.ins.now) parts.first parts.second c.joined-low.result.0
    c.joined-low.result.1
    c.parts_of-parts.ensures.fit.one c.parts_of-parts.ensures.fit.other (omega (arith, c.joined-low.type_inv)) c.joined-low.ensures
    c.parts_of-parts.ensures.bytes

pub returns-clause-length : goal.returns-clause-length
returns-clause-length c =
    let parts = c.parts_of-parts.result in
    (λ i. 2 + c.size.ensures i + c.size-2.ensures i)
    ∙ written_length parts.one parts.other (spelling_of c.args.ins.now) parts.first parts.second c.parts_of-parts.ensures.bytes
