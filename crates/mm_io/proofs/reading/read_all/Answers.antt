use Rattle.std.proofs.Common.{◌≡◌, ℕ, List, ◌++◌, ◌+◌, ◌<◌, ◌≤◌, take, length, Ok, refl, ap, sym, ◌∙◌, subst, arith, rules}
use Rattle.std.specs.declared.option.Option.{Option}
use Rattle.mm_io.specs.Streams.{Gives}
use Rattle.mm_io.proofs.StreamLemmas.{gives-nothing, gives-more, all-given, length-more, within-not_over}
use Rattle.mm_io.proofs.reading.read_all.Goals as goal

pub loop-bytes-init : goal.loop-bytes-init
loop-bytes-init g c =
    let P : List ℕ → Type 0 = λ l. Gives (g.S.Source.left c.args.source.now) (g.S.Source.left c.args.source.now) l in
    record {
      gave = subst P (sym c.new-bytes.ensures) (gives-nothing _ _ refl);
      later = search rules;
      block = search rules;
      most = refl;
      fits = search rules;
    }

pub returns-then-count-eq0-clause-ok : goal.returns-then-count-eq0-clause-ok
returns-then-count-eq0-clause-ok g c =
    let before = c.loop-bytes.invariant in
    let some : 0 < length c.loop-bytes.block = omega (arith, before.block) in
    all-given _ _ _ _ c.in_ok-count.count c.loop-bytes.bytes c.read.new.buf before.gave c.in_ok-count.ensures.gives c.if-count-eq0.true
    (c.in_ok-count.ensures.end (ap Ok c.if-count-eq0.true, some)) before.fits

pub returns-then-count-eq0-clause-over : goal.returns-then-count-eq0-clause-over
returns-then-count-eq0-clause-over g c = within-not_over _ _ _ _ (returns-then-count-eq0-clause-ok g c)

pub returns-then-count-eq0-clause-given : goal.returns-then-count-eq0-clause-given
returns-then-count-eq0-clause-given g c = (_, gives-more _ _ _ _ _ c.loop-bytes.invariant.gave c.in_ok-count.ensures.gives)

pub returns-then-count-most-clause-too_long : goal.returns-then-count-most-clause-too_long
returns-then-count-most-clause-too_long g c long =
    let within : c.in_ok-count.count ≤ length c.read.new.buf = search rules in
    let len = length-more c.in_ok-count.count c.loop-bytes.bytes c.read.new.buf within in
    let over : c.args.limit < length (c.loop-bytes.bytes ++ take c.in_ok-count.count c.read.new.buf) = omega (arith, len, c.len.ensures, c.if-count-most.true) in
    (_, over, gives-more _ _ _ _ _ c.loop-bytes.invariant.gave c.in_ok-count.ensures.gives)

pub returns-then-count-most-clause-given : goal.returns-then-count-most-clause-given
returns-then-count-most-clause-given g c = (_, gives-more _ _ _ _ _ c.loop-bytes.invariant.gave c.in_ok-count.ensures.gives)

pub returns-in_err-extend-clause-given : goal.returns-in_err-extend-clause-given
returns-in_err-extend-clause-given g c = (_, gives-more _ _ _ _ _ c.loop-bytes.invariant.gave c.in_ok-count.ensures.gives)

pub loop-bytes-preserved : goal.loop-bytes-preserved
loop-bytes-preserved g c =
    let n = c.in_ok-count.count in
    let within : n ≤ length c.read.new.buf = search rules in
    let joined : c.extend.new.self ≡ c.loop-bytes.bytes ++ take n c.read.new.buf = c.in_ok-extend.ensures.ok ∙ ap (λ l. c.loop-bytes.bytes ++ l) c.split_at.ensures.front in
    let len : length c.extend.new.self ≡ length c.loop-bytes.bytes + n = ap length joined ∙ length-more n c.loop-bytes.bytes c.read.new.buf within in
    let P : List ℕ → Type 0 = λ l. Gives (g.S.Source.left c.args.source.now) (g.S.Source.left c.read.new.self) l in
    record {
      gave = subst P (sym joined) (gives-more _ _ _ _ _ c.loop-bytes.invariant.gave c.in_ok-count.ensures.gives);
      later = search rules;
      block = search rules;
      most = refl;
      fits = omega (arith, len, c.len.ensures, c.if-count-most.false, c.loop-bytes.invariant.fits);
    }

pub returns-in_err-count-clause-at_most : goal.returns-in_err-count-clause-at_most
returns-in_err-count-clause-at_most g c other =
    let P : Option (List ℕ) → Type 0 = λ now. Gives (g.S.Source.left c.args.source.now) now c.loop-bytes.bytes in
    (c.loop-bytes.bytes, omega (arith, c.loop-bytes.invariant.fits, c.loop-bytes.invariant.most), subst P (sym c.in_err-count.ensures.unchanged) c.loop-bytes.invariant.gave)

pub returns-then-count-eq0-clause-at_most : goal.returns-then-count-eq0-clause-at_most
returns-then-count-eq0-clause-at_most g c other =
    let all = returns-then-count-eq0-clause-ok g c in
    (c.loop-bytes.bytes, all.within, all.gives)

pub returns-in_err-extend-clause-at_most : goal.returns-in_err-extend-clause-at_most
returns-in_err-extend-clause-at_most g c other =
    let n = c.in_ok-count.count in
    let within : n ≤ length c.read.new.buf = search rules in
    let len = length-more n c.loop-bytes.bytes c.read.new.buf within in
    (_, omega (arith, len, c.len.ensures, c.if-count-most.false, c.loop-bytes.invariant.fits, c.loop-bytes.invariant.most), gives-more _ _ _ _ _ c.loop-bytes.invariant.gave c.in_ok-count.ensures.gives)
