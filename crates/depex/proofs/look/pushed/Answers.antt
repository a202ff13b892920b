use Rattle.std.proofs.Common.{ℕ, List, [], ◌∷◌, ◌++◌, length, drop, refl, sym, ap, ◌∙◌, arith}
use Rattle.std.proofs.lemmas.List.{take-append-drop, length-take-le}
use Rattle.depex.specs.declared.item.Item.TheVariants as items
use Rattle.depex.proofs.look.pushed.Goals as goal

pub returns-then-operands-eq-MOST_OPERANDS : goal.returns-then-operands-eq-MOST_OPERANDS
returns-then-operands-eq-MOST_OPERANDS c =
    (refl, items.Push (record { 0 = [] }), refl, refl, c.if-operands-eq-MOST_OPERANDS.true)

pub returns-in-Some : goal.returns-in-Some
returns-in-Some c =
    let behind = c.args.behind.now in
    let value = c.in-Some.ensures.value in
    record {
      behind = drop 16 behind;
      begins = ap (λ (xs : List ℕ). 2 ∷ xs) (sym (take-append-drop 16 behind) ∙ ap (λ (g : List ℕ). g ++ drop 16 behind) (sym value));
      whole = ap length value ∙ length-take-le 16 behind (c.in-Some.ensures.found.0 refl);
      may = record { enough = omega arith; room = λ _. omega (arith, c.requires) };
    }
