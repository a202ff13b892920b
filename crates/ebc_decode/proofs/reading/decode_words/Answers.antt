use Rattle.std.proofs.Common.{ℕ, ◌+◌, ◌*◌, ◌/◌, ◌%◌, ◌^◌, ap, ◌∙◌}
use Rattle.ebc_decode.specs.ReadingInside.{bytes_if, number_in}
use Rattle.ebc_decode.proofs.FetchLemmas.{head_of-words, tail_of-words}
use Rattle.ebc_decode.proofs.ToldLemmas.{Built, words_none_at, words_short_at, words_told_at, words_found_at}
use Rattle.ebc_decode.proofs.reading.decode_words.Goals as goal

pub returns-in_err-opcode-clause-only : goal.returns-in_err-opcode-clause-only
returns-in_err-opcode-clause-only c =
    words_none_at c.args.n (number_in c.args.first c.args.second c.args.third) c.of-head.result _ _
    (c.of-head.ensures ∙ head_of-words c.args.first c.args.second c.args.third) c.in_err-opcode.ensures.only

pub returns-then-n-length-clause-only : goal.returns-then-n-length-clause-only
returns-then-n-length-clause-only c =
    words_short_at c.args.n (number_in c.args.first c.args.second c.args.third) c.of-head.result c.in_ok-opcode.opcode
    c.in_ok-opcode.layout c.length-length.result _
    (c.of-head.ensures ∙ head_of-words c.args.first c.args.second c.args.third) c.in_ok-opcode.ensures.only
    c.length-length.ensures c.if-n-length.true

made : (c : goal.After-build)
    → Built (number_in c.args.first c.args.second c.args.third) c.of-head.result c.in_ok-opcode.opcode c.in_ok-opcode.layout
    c.fields-one.result.0 c.fields-one.result.1 c.build.result
made c =
    let number = number_in c.args.first c.args.second c.args.third in
    let third = c.from.ensures in
    let tail =
    ap (λ (t : ℕ). c.args.first / 65536 + c.args.second % 65536 * 281474976710656
    + 2 ^ 64 * (c.args.second / 65536 + t * 281474976710656)) third
    ∙ tail_of-words c.args.first c.args.second c.args.third in
    let layout = c.in_ok-opcode.layout in
    record {
      at = c.of-head.ensures ∙ head_of-words c.args.first c.args.second c.args.third;
      fields = c.in_ok-opcode.ensures.fields;
      first = c.fields-one.ensures.first ∙ ap (λ (t : ℕ). t % 256 ^ bytes_if layout.first) tail;
      second =
          c.fields-one.ensures.second ∙ ap (λ (t : ℕ). t / 256 ^ bytes_if layout.first % 256 ^ bytes_if layout.second) tail;
      built_is = c.build.ensures;
    }

pub returns-clause-found : goal.returns-clause-found
returns-clause-found c =
    words_found_at c.args.n (number_in c.args.first c.args.second c.args.third) c.of-head.result c.in_ok-opcode.opcode
    c.in_ok-opcode.layout c.fields-one.result.0 c.fields-one.result.1 c.length-length.result c.build.result
    (made c) c.in_ok-opcode.ensures.found c.length-length.ensures c.if-n-length.false

pub returns-clause-only : goal.returns-clause-only
returns-clause-only c =
    words_told_at c.args.n (number_in c.args.first c.args.second c.args.third) c.of-head.result c.in_ok-opcode.opcode
    c.in_ok-opcode.layout c.fields-one.result.0 c.fields-one.result.1 c.length-length.result c.build.result
    (made c) c.in_ok-opcode.ensures.only c.length-length.ensures
