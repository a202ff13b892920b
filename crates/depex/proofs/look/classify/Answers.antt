use Rattle.std.proofs.Common.{ℕ, ◌∷◌, sym, subst}
use Rattle.depex.specs.FindingInside.{Finds}
use Rattle.depex.proofs.look.classify.Goals as goal

pub returns-in-3 : goal.returns-in-3
returns-in-3 c =
    let P : ℕ → Type 0 = λ opcode. Finds c.args.operands c.args.at (opcode ∷ c.args.behind.now) c.placed.result in
    subst P (sym c.in-3.is) (c.placed.ensures c.args.behind.now tt)

pub returns-in-4 : goal.returns-in-4
returns-in-4 c =
    let P : ℕ → Type 0 = λ opcode. Finds c.args.operands c.args.at (opcode ∷ c.args.behind.now) c.placed-in-4.result in
    subst P (sym c.in-4.is) (c.placed-in-4.ensures c.args.behind.now tt)

pub returns-in-5 : goal.returns-in-5
returns-in-5 c =
    let P : ℕ → Type 0 = λ opcode. Finds c.args.operands c.args.at (opcode ∷ c.args.behind.now) c.placed-in-5.result in
    subst P (sym c.in-5.is) (c.placed-in-5.ensures c.args.behind.now tt)

pub returns-in-6 : goal.returns-in-6
returns-in-6 c =
    let P : ℕ → Type 0 = λ opcode. Finds c.args.operands c.args.at (opcode ∷ c.args.behind.now) c.placed-in-6.result in
    subst P (sym c.in-6.is) (c.placed-in-6.ensures c.args.behind.now tt)

pub returns-in-7 : goal.returns-in-7
returns-in-7 c =
    let P : ℕ → Type 0 = λ opcode. Finds c.args.operands c.args.at (opcode ∷ c.args.behind.now) c.placed-in-7.result in
    subst P (sym c.in-7.is) (c.placed-in-7.ensures c.args.behind.now tt)

pub returns-in-8 : goal.returns-in-8
returns-in-8 c =
    let P : ℕ → Type 0 = λ opcode. Finds c.args.operands c.args.at (opcode ∷ c.args.behind.now) c.ended.result in
    subst P (sym c.in-8.is) (c.ended.ensures c.args.behind.now)
