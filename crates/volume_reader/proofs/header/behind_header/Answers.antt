use Rattle.std.proofs.Common.{◌+◌, ap, ◌∙◌, arith}
use Rattle.mm_base.specs.Numbers.{number_in}
use Rattle.volume_reader.proofs.HeaderLemmas.{passed, ext_in}
use Rattle.volume_reader.proofs.header.behind_header.Goals as goal

pub returns-then-at-eq0-clause-within : goal.returns-then-at-eq0-clause-within
returns-then-at-eq0-clause-within c =
    let p = passed c.args.bytes.now c.requires in
    omega (arith, p.header)

pub overflow_add-at : goal.overflow_add-at
overflow_add-at c =
    let p = passed c.args.bytes.now c.requires in
    let q = ext_in c.args.bytes.now c.requires (λ e. c.if-at-eq0.false (c.number_at-at.ensures ∙ e)) in
    omega (arith, p.within, q.room)

pub number_at-requires-clause-within : goal.number_at-requires-clause-within
number_at-requires-clause-within c =
    let p = passed c.args.bytes.now c.requires in
    let q = ext_in c.args.bytes.now c.requires (λ e. c.if-at-eq0.false (c.number_at-at.ensures ∙ e)) in
    omega (arith, p.within, q.room)

pub overflow_add-result : goal.overflow_add-result
overflow_add-result c =
    let p = passed c.args.bytes.now c.requires in
    let q = ext_in c.args.bytes.now c.requires (λ e. c.if-at-eq0.false (c.number_at-at.ensures ∙ e)) in
    let size = c.number_at.ensures ∙ ap (λ n. number_in c.args.bytes.now (n + 16) 4) c.number_at-at.ensures in
    omega (arith, p.within, q.fits)

pub returns-clause-within : goal.returns-clause-within
returns-clause-within c =
    let q = ext_in c.args.bytes.now c.requires (λ e. c.if-at-eq0.false (c.number_at-at.ensures ∙ e)) in
    let size = c.number_at.ensures ∙ ap (λ n. number_in c.args.bytes.now (n + 16) 4) c.number_at-at.ensures in
    omega (arith, q.fits)
