use Rattle.std.proofs.Common.{ℕ, false, ne_eqb, ◌≡◌, ◌==◌, ◌∙◌, sym, subst, arith}
use Rattle.mm_base.specs.Services.{entry_of}
use Rattle.supervisor_calls.proofs.TableLemmas.{Searched, searched_more, searched_all}
use Rattle.supervisor_calls.proofs.memory_access.service_in.Goals as goal

pub loop-number-preserved : goal.loop-number-preserved
loop-number-preserved c =
    let differs : (entry_of c.args.page c.loop-number.number == c.args.at) ≡ false =
    ne_eqb (entry_of c.args.page c.loop-number.number) c.args.at (λ same. c.if-service_entry-at.false (c.service_entry.ensures ∙ same)) in
    searched_more c.args.page c.args.at c.loop-number.number c.loop-number.invariant c.loop-number-test.true differs

pub returns-clause-value : goal.returns-clause-value
returns-clause-value c =
    let P : ℕ → Type 0 = λ k. Searched c.args.page c.args.at k in
    sym (searched_all c.args.page c.args.at (subst P (omega (arith, c.loop-number-test.false, c.loop-number.auto)) c.loop-number.invariant))
