use Rattle.std.proofs.Common.{rules, arith, ◌≡◌, ◌∙◌, sym, ap, subst, suc, ◌+◌, ◌-◌, ◌/◌, ◌<◌, ◌≤◌, length, take, drop, List, ◌++◌, refl}
use Rattle.std.proofs.Common.{true, false, add-one}
use borrow.Rule.Slice.PartMut.{put_mid}
use Rattle.pool_tree.specs.declared.tree.Node.{Node}
use Rattle.pool_tree.specs.PoolInside.{IsPart, Frees}
use Rattle.pool_tree.specs.TreeInside.{part_bytes, node_count, node_first, IsKept, is_live_node, live_in, live_below}
use Rattle.pool_tree.proofs.SizeLemmas.{part_left, part_right}
use Rattle.pool_tree.proofs.StepLemmas.{below_long, kept_below, part_below, some_nodes, written_below, kept_after, frees_after}
use Rattle.pool_tree.proofs.StepLemmas.{none_at_zero}
use Rattle.pool_tree.proofs.StepLemmas.{kept_free_again, freed_live, other_not_live, frees_first, frees_second}
use Rattle.pool_tree.proofs.tree.+give.Goals as goal

pub give-returns-then-level-eq0-clause-frees : goal.give-returns-then-level-eq0-clause-frees
give-returns-then-level-eq0-clause-frees t c =
    (none_at_zero c.args.level c.args.base c.args.place c.args.nodes.now c.if-level-eq0.true, refl)

pub give-returns-then-place-base-clause-frees : goal.give-returns-then-place-base-clause-frees
give-returns-then-place-base-clause-frees t c =
    let above : c.args.level ≡ suc (c.args.level - 1) = omega arith in
    let live : is_live_node (node_first c.args.nodes.now) ≡ true =
    sym (c.is_live.ensures ∙ ap is_live_node c.first_of.ensures) ∙ c.if-is_live.true in (
      other_not_live c.args.level (c.args.level - 1) above c.args.nodes.now c.requires.nodes c.requires.kept live c.args.base c.args.place
          c.if-place-base.true,
      refl,
    )

pub give-returns-then-is_live-clause-kept : goal.give-returns-then-is_live-clause-kept
give-returns-then-is_live-clause-kept t c =
    let above : c.args.level ≡ suc (c.args.level - 1) = omega arith in
    let live : is_live_node (node_first c.args.nodes.now) ≡ true =
    sym (c.is_live.ensures ∙ ap is_live_node c.first_of.ensures) ∙ c.if-is_live.true in
    kept_free_again c.args.level (c.args.level - 1) above c.args.nodes.now c.requires.nodes c.requires.kept live

pub give-returns-then-is_live-clause-frees : goal.give-returns-then-is_live-clause-frees
give-returns-then-is_live-clause-frees t c =
    let above : c.args.level ≡ suc (c.args.level - 1) = omega arith in
    let live : is_live_node (node_first c.args.nodes.now) ≡ true =
    sym (c.is_live.ensures ∙ ap is_live_node c.first_of.ensures) ∙ c.if-is_live.true in
    freed_live c.args.level (c.args.level - 1) above c.args.nodes.now c.requires.nodes c.requires.kept live c.args.base c.args.place tt
    c.if-place-base.false

pub give-give_below-given-requires : goal.give-give_below-given-requires
give-give_below-given-requires t c =
    let above : c.args.level ≡ suc (c.args.level - 1) = omega arith in (
      search rules,
      (
        below_long c.args.level (c.args.level - 1) above c.args.nodes.now c.requires.nodes,
        (
          kept_below c.args.level (c.args.level - 1) above c.args.nodes.now c.requires.nodes c.requires.kept,
          (omega arith, part_below c.args.level (c.args.level - 1) above c.args.nodes.now c.requires.nodes c.args.base c.requires.part),
        ),
      ),
    )

pub give-joined-node-requires : goal.give-joined-node-requires
give-joined-node-requires t c =
    let above : c.args.level ≡ suc (c.args.level - 1) = omega arith in
    let long = below_long c.args.level (c.args.level - 1) above c.args.nodes.now c.requires.nodes in
    omega (arith, c.give_below-given.auto.below, long)

pub give-bounds-nodes-0 : goal.give-bounds-nodes-0
give-bounds-nodes-0 t c =
    let above : c.args.level ≡ suc (c.args.level - 1) = omega arith in
    let some = some_nodes c.args.level (c.args.level - 1) above c.args.nodes.now c.requires.nodes in
    search rules

pub give-bounds-nodes-0-2 : goal.give-bounds-nodes-0-2
give-bounds-nodes-0-2 t c =
    let above : c.args.level ≡ suc (c.args.level - 1) = omega arith in
    let some = some_nodes c.args.level (c.args.level - 1) above c.args.nodes.now c.requires.nodes in
    let written = ap length (written_below c.args.nodes.now c.give_below-given.new.below some) in
    let long : 0 < length (put_mid 1 (length c.args.nodes.now - 1) c.args.nodes.now c.give_below-given.new.below) =
    omega (arith, written) in
    search rules

pub give-returns-clause-kept : goal.give-returns-clause-kept
give-returns-clause-kept t c =
    let above : c.args.level ≡ suc (c.args.level - 1) = omega arith in
    kept_after c.args.level (c.args.level - 1) above c.args.nodes.now c.requires.nodes c.give_below-given.new.below c.joined-node.result
    c.joined-node.ensures c.give_below-given.ensures.kept

pub give-returns-clause-frees : goal.give-returns-clause-frees
give-returns-clause-frees t c =
    let above : c.args.level ≡ suc (c.args.level - 1) = omega arith in
    let live : is_live_node (node_first c.args.nodes.now) ≡ false =
    sym (c.is_live.ensures ∙ ap is_live_node c.first_of.ensures) ∙ c.if-is_live.false in
    frees_after c.args.level (c.args.level - 1) above c.args.nodes.now c.requires.nodes c.give_below-given.new.below c.joined-node.result
    c.joined-node.ensures c.args.base c.args.place c.give_below-given.result live c.give_below-given.ensures.frees

pub give_below-give-requires : goal.give_below-give-requires
give_below-give-requires t c =
    let middle : length c.args.below.now / 2 ≡ node_count c.args.level = omega arith in
    let left_is = c.split_at_mut-left.ensures.front ∙ ap (λ n. take n c.args.below.now) middle in
    let part : IsPart (suc c.args.level) c.args.base = subst (λ n. IsPart n c.args.base) (add-one c.args.level) c.requires.part in (
      search rules,
      (
        c.split_at_mut-left.ensures.front_len ∙ middle,
        (subst (IsKept c.args.level) (sym left_is) c.requires.kept.0, (omega arith, part_left c.args.level c.args.base part)),
      ),
    )

pub give_below-returns-then-place-second-clause-frees : goal.give_below-returns-then-place-second-clause-frees
give_below-returns-then-place-second-clause-frees t c =
    let middle : length c.args.below.now / 2 ≡ node_count c.args.level = omega arith in
    let left : List Node = c.split_at_mut-left.result.0.now in
    let right : List Node = c.split_at_mut-left.result.1.now in
    let long : length left ≡ node_count c.args.level = c.split_at_mut-left.ensures.front_len ∙ middle in
    let long_later : length c.give.new.nodes ≡ node_count c.args.level = omega (arith, c.give.auto.nodes, long) in
    let before : c.args.place < c.args.base + part_bytes c.args.level = omega (arith, c.from.ensures, c.bytes_at.ensures) in
    subst (λ (xs : List Node). Frees c.args.place (live_below c.args.level c.args.base xs)
    (live_below c.args.level c.args.base (c.give.new.nodes ++ right)) c.give.result) (sym c.split_at_mut-left.ensures.value)
    (frees_first c.args.level c.args.base left right c.give.new.nodes long long_later c.args.place
    c.give.result before c.give.ensures.frees)

pub give_below-give-requires-2 : goal.give_below-give-requires-2
give_below-give-requires-2 t c =
    let middle : length c.args.below.now / 2 ≡ node_count c.args.level = omega arith in
    let right_is = c.split_at_mut-left.ensures.back ∙ ap (λ n. drop n c.args.below.now) middle in
    let part : IsPart (suc c.args.level) c.args.base = subst (λ n. IsPart n c.args.base) (add-one c.args.level) c.requires.part in (
      search rules,
      (
        omega (arith, c.split_at_mut-left.ensures.back_len, middle),
        (
          subst (IsKept c.args.level) (sym right_is) c.requires.kept.1,
          (
            omega arith,
            subst (λ bytes. IsPart c.args.level (c.args.base + bytes)) (sym (c.from.ensures ∙ c.bytes_at.ensures))
                (part_right c.args.level c.args.base part),
          ),
        ),
      ),
    )

pub give_below-returns-clause-frees : goal.give_below-returns-clause-frees
give_below-returns-clause-frees t c =
    let middle : length c.args.below.now / 2 ≡ node_count c.args.level = omega arith in
    let left : List Node = c.split_at_mut-left.result.0.now in
    let right : List Node = c.split_at_mut-left.result.1.now in
    let long : length left ≡ node_count c.args.level = c.split_at_mut-left.ensures.front_len ∙ middle in
    let after : c.args.base + part_bytes c.args.level ≤ c.args.place = omega (arith, c.from.ensures, c.bytes_at.ensures) in
    let frees = subst (λ bytes. Frees c.args.place (live_in c.args.level (c.args.base + bytes) right)
    (live_in c.args.level (c.args.base + bytes) c.give-2.new.nodes) c.give-2.result)
    (c.from.ensures ∙ c.bytes_at.ensures) c.give-2.ensures.frees in
    subst (λ (xs : List Node). Frees c.args.place (live_below c.args.level c.args.base xs)
    (live_below c.args.level c.args.base (left ++ c.give-2.new.nodes)) c.give-2.result) (sym c.split_at_mut-left.ensures.value)
    (frees_second c.args.level c.args.base c.args.place left right c.give-2.new.nodes c.give-2.result long after frees)
