use Rattle.std.proofs.Common.{ℕ, ◌-◌, ◌∙◌, ◌++◌, List, take, drop, replicate, ap, sym, subst, arith}
use Rattle.mm_memory.specs.Flat.{AreLive}
use Rattle.supervisor_calls.specs.Tables.{TablesState}
use Rattle.supervisor_calls.proofs.WhereLemmas.{executed_where, memory_told}
use Rattle.supervisor_calls.proofs.TableLemmas.{memory_bytes}
use Rattle.supervisor_calls.proofs.tables.Tables.code.Goals as goal

pub overflow_sub-at : goal.overflow_sub-at
overflow_sub-at g c =
    (executed_where c.args.self.now c.keeps.ensures.tables c.keeps.ensures.placed c.args.image c.args.at c.args.n c.args.trapped c.requires.passes).from

pub overflow_cast-at : goal.overflow_cast-at
overflow_cast-at g c =
    let there = executed_where c.args.self.now c.keeps.ensures.tables c.keeps.ensures.placed c.args.image c.args.at c.args.n c.args.trapped c.requires.passes in
    omega (arith, there.from, there.to)

pub code_from-requires-clause-within : goal.code_from-requires-clause-within
code_from-requires-clause-within g c =
    let there = executed_where c.args.self.now c.keeps.ensures.tables c.keeps.ensures.placed c.args.image c.args.at c.args.n c.args.trapped c.requires.passes in
    omega (arith, there.from, there.to, c.self.invariant.keeps.memory)

pub code_from-requires-clause-live : goal.code_from-requires-clause-live
code_from-requires-clause-live g c =
    let there = executed_where c.args.self.now c.keeps.ensures.tables c.keeps.ensures.placed c.args.image c.args.at c.args.n c.args.trapped c.requires.passes in
    let P : TablesState → Type 0 = λ tables. AreLive tables.pages (c.args.at - 0x80000000) c.args.n in
    subst P (sym c.self.view_is) there.live

pub returns : goal.returns
returns g c =
    let there = executed_where c.args.self.now c.keeps.ensures.tables c.keeps.ensures.placed c.args.image c.args.at c.args.n c.args.trapped c.requires.passes in
    c.code_from.ensures
    ∙ ap (λ (tables : TablesState). take c.args.n (drop (c.args.at - 0x80000000) tables.live.memory) ++ replicate (18 - c.args.n) 0) c.self.view_is
    ∙ ap (λ (bytes : List ℕ). bytes ++ replicate (18 - c.args.n) 0) (sym (memory_bytes c.args.self.now.live c.args.at c.args.n (memory_told c.args.self.now.pages c.args.at c.args.n there c.requires.low)))
