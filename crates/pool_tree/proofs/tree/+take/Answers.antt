use Rattle.std.proofs.Common.{rules, arith, ◌≡◌, ◌∙◌, sym, ap, subst, suc, ◌+◌, ◌-◌, ◌*◌, ◌/◌, ◌<◌, ◌≤◌, length, take, drop, set, List}
use Rattle.std.proofs.Common.{◌++◌, refl, true, false, is_some, add-one}
use borrow.Rule.Slice.PartMut.{put_mid}
use Rattle.pool_tree.specs.declared.tree.Node.{Node}
use Rattle.pool_tree.specs.declared.tree.Node.TheVariants.{Live}
use Rattle.pool_tree.specs.PoolInside.{IsPart, IsTaken, Gives}
use Rattle.pool_tree.specs.TreeInside.{part_bytes, node_count, node_first, room_in, IsKept, live_in, live_below}
use Rattle.pool_tree.proofs.SizeLemmas.{part_left, part_right}
use Rattle.pool_tree.proofs.TreeLemmas.{no_room, room_most}
use Rattle.pool_tree.proofs.StepLemmas.{room_not_live, below_long, kept_below, part_below, some_nodes, written_below, kept_after}
use Rattle.pool_tree.proofs.StepLemmas.{gives_after}
use Rattle.pool_tree.proofs.StepLemmas.{kept_live, taken_live, gives_first, gives_second}
use Rattle.pool_tree.proofs.tree.+take.Goals as goal

pub take-returns-then-room-wanted-clause-gives : goal.take-returns-then-room-wanted-clause-gives
take-returns-then-room-wanted-clause-gives t c =
    let room : c.room.result ≡ room_in c.args.level (node_first c.args.nodes.now) =
    c.room.ensures ∙ ap (room_in c.args.level) c.first_of.ensures in
    let short : room_in c.args.level (node_first c.args.nodes.now) < c.args.wanted = omega arith in
    record {
      none = no_room c.args.level c.args.base c.args.wanted c.args.nodes.now c.requires.kept c.requires.part.aligned short;
      unchanged = refl;
    }

pub take-returns-then-level-wanted-clause-kept : goal.take-returns-then-level-wanted-clause-kept
take-returns-then-level-wanted-clause-kept t c =
    let room : c.room.result ≡ room_in c.args.level (node_first c.args.nodes.now) =
    c.room.ensures ∙ ap (room_in c.args.level) c.first_of.ensures in
    let above : c.args.level ≡ suc (c.args.level - 1) = omega arith in
    let full : c.args.level ≤ room_in c.args.level (node_first c.args.nodes.now) = omega arith in
    kept_live c.args.level (c.args.level - 1) above c.args.nodes.now c.requires.nodes c.requires.kept full

pub take-returns-then-level-wanted-clause-gives : goal.take-returns-then-level-wanted-clause-gives
take-returns-then-level-wanted-clause-gives t c =
    let room : c.room.result ≡ room_in c.args.level (node_first c.args.nodes.now) =
    c.room.ensures ∙ ap (room_in c.args.level) c.first_of.ensures in
    let above : c.args.level ≡ suc (c.args.level - 1) = omega arith in
    let full : c.args.level ≤ room_in c.args.level (node_first c.args.nodes.now) = omega arith in
    let taken = taken_live c.args.level (c.args.level - 1) above c.args.nodes.now c.requires.nodes c.requires.kept full
    c.args.base c.requires.part in
    subst (λ n. IsTaken c.args.base (part_bytes c.args.level) (part_bytes n) (live_in c.args.level c.args.base c.args.nodes.now)
    (live_in c.args.level c.args.base (set c.args.nodes.now 0 Live)) c.args.base) c.if-level-wanted.true taken

pub take-take_below-place-requires : goal.take-take_below-place-requires
take-take_below-place-requires t c =
    let room : c.room.result ≡ room_in c.args.level (node_first c.args.nodes.now) =
    c.room.ensures ∙ ap (room_in c.args.level) c.first_of.ensures in
    let most = room_most c.args.level c.args.nodes.now c.requires.kept in
    let above : c.args.level ≡ suc (c.args.level - 1) = omega arith in (
      search rules,
      (
        below_long c.args.level (c.args.level - 1) above c.args.nodes.now c.requires.nodes,
        (
          kept_below c.args.level (c.args.level - 1) above c.args.nodes.now c.requires.nodes c.requires.kept,
          (
            omega arith,
            (
              c.requires.wanted,
              (omega arith, part_below c.args.level (c.args.level - 1) above c.args.nodes.now c.requires.nodes c.args.base c.requires.part),
            ),
          ),
        ),
      ),
    )

pub take-joined-node-requires : goal.take-joined-node-requires
take-joined-node-requires t c =
    let room : c.room.result ≡ room_in c.args.level (node_first c.args.nodes.now) =
    c.room.ensures ∙ ap (room_in c.args.level) c.first_of.ensures in
    let most = room_most c.args.level c.args.nodes.now c.requires.kept in
    let above : c.args.level ≡ suc (c.args.level - 1) = omega arith in
    let long = below_long c.args.level (c.args.level - 1) above c.args.nodes.now c.requires.nodes in
    omega (arith, c.take_below-place.auto.below, long)

pub take-bounds-nodes-0-2 : goal.take-bounds-nodes-0-2
take-bounds-nodes-0-2 t c =
    let room : c.room.result ≡ room_in c.args.level (node_first c.args.nodes.now) =
    c.room.ensures ∙ ap (room_in c.args.level) c.first_of.ensures in
    let most = room_most c.args.level c.args.nodes.now c.requires.kept in
    let above : c.args.level ≡ suc (c.args.level - 1) = omega arith in
    let some = some_nodes c.args.level (c.args.level - 1) above c.args.nodes.now c.requires.nodes in
    let written = ap length (written_below c.args.nodes.now c.take_below-place.new.below some) in
    let long : 0 < length (put_mid 1 (length c.args.nodes.now - 1) c.args.nodes.now c.take_below-place.new.below) =
    omega (arith, written) in
    search rules

pub take-returns-clause-kept : goal.take-returns-clause-kept
take-returns-clause-kept t c =
    let room : c.room.result ≡ room_in c.args.level (node_first c.args.nodes.now) =
    c.room.ensures ∙ ap (room_in c.args.level) c.first_of.ensures in
    let most = room_most c.args.level c.args.nodes.now c.requires.kept in
    let above : c.args.level ≡ suc (c.args.level - 1) = omega arith in
    kept_after c.args.level (c.args.level - 1) above c.args.nodes.now c.requires.nodes c.take_below-place.new.below c.joined-node.result
    c.joined-node.ensures c.take_below-place.ensures.kept

pub take-returns-clause-gives : goal.take-returns-clause-gives
take-returns-clause-gives t c =
    let room : c.room.result ≡ room_in c.args.level (node_first c.args.nodes.now) =
    c.room.ensures ∙ ap (room_in c.args.level) c.first_of.ensures in
    let most = room_most c.args.level c.args.nodes.now c.requires.kept in
    let above : c.args.level ≡ suc (c.args.level - 1) = omega arith in
    let some : 1 ≤ room_in c.args.level (node_first c.args.nodes.now) = omega arith in
    gives_after c.args.level (c.args.level - 1) above c.args.nodes.now c.requires.nodes c.take_below-place.new.below c.joined-node.result
    c.joined-node.ensures c.args.base (part_bytes c.args.wanted) c.take_below-place.result
    (room_not_live c.args.level (node_first c.args.nodes.now) some) c.take_below-place.ensures.gives

pub take_below-take-found-requires : goal.take_below-take-found-requires
take_below-take-found-requires t c =
    let middle : length c.args.below.now / 2 ≡ node_count c.args.level = omega arith in
    let left_is = c.split_at_mut-left.ensures.front ∙ ap (λ n. take n c.args.below.now) middle in
    let part : IsPart (suc c.args.level) c.args.base = subst (λ n. IsPart n c.args.base) (add-one c.args.level) c.requires.part in (
      search rules,
      (
        c.split_at_mut-left.ensures.front_len ∙ middle,
        (
          subst (IsKept c.args.level) (sym left_is) c.requires.kept.0,
          (omega arith, (c.requires.wanted, part_left c.args.level c.args.base part)),
        ),
      ),
    )

pub take_below-returns-then-is_some-clause-gives : goal.take_below-returns-then-is_some-clause-gives
take_below-returns-then-is_some-clause-gives t c =
    let middle : length c.args.below.now / 2 ≡ node_count c.args.level = omega arith in
    let left : List Node = c.split_at_mut-left.result.0.now in
    let right : List Node = c.split_at_mut-left.result.1.now in
    let long : length left ≡ node_count c.args.level = c.split_at_mut-left.ensures.front_len ∙ middle in
    let long_later : length c.take-found.new.nodes ≡ node_count c.args.level = omega (arith, c.take-found.auto.nodes, long) in
    let some : is_some c.take-found.result ≡ true = search rules in
    subst (λ (xs : List Node). Gives c.args.base (2 * part_bytes c.args.level) (part_bytes c.args.wanted)
    (live_below c.args.level c.args.base xs) (live_below c.args.level c.args.base (c.take-found.new.nodes ++ right))
    c.take-found.result) (sym c.split_at_mut-left.ensures.value)
    (gives_first c.args.level c.args.base left right c.take-found.new.nodes long long_later c.args.wanted
    c.take-found.result some c.take-found.ensures.gives)

pub take_below-take-requires : goal.take_below-take-requires
take_below-take-requires t c =
    let middle : length c.args.below.now / 2 ≡ node_count c.args.level = omega arith in
    let right_is = c.split_at_mut-left.ensures.back ∙ ap (λ n. drop n c.args.below.now) middle in
    let part : IsPart (suc c.args.level) c.args.base = subst (λ n. IsPart n c.args.base) (add-one c.args.level) c.requires.part in (
      search rules,
      (
        omega (arith, c.split_at_mut-left.ensures.back_len, middle),
        (
          subst (IsKept c.args.level) (sym right_is) c.requires.kept.1,
          (
            omega arith,
            (
              c.requires.wanted,
              subst (λ bytes. IsPart c.args.level (c.args.base + bytes)) (sym c.bytes_at.ensures)
                  (part_right c.args.level c.args.base part),
            ),
          ),
        ),
      ),
    )

pub take_below-returns-clause-gives : goal.take_below-returns-clause-gives
take_below-returns-clause-gives t c =
    let middle : length c.args.below.now / 2 ≡ node_count c.args.level = omega arith in
    let part : IsPart (suc c.args.level) c.args.base = subst (λ n. IsPart n c.args.base) (add-one c.args.level) c.requires.part in
    let left : List Node = c.split_at_mut-left.result.0.now in
    let right : List Node = c.split_at_mut-left.result.1.now in
    let long : length left ≡ node_count c.args.level = c.split_at_mut-left.ensures.front_len ∙ middle in
    let long_later : length c.take-found.new.nodes ≡ node_count c.args.level = omega (arith, c.take-found.auto.nodes, long) in
    let none : is_some c.take-found.result ≡ false = search rules in
    let gives = subst (λ bytes. Gives (c.args.base + bytes) (part_bytes c.args.level) (part_bytes c.args.wanted)
    (live_in c.args.level (c.args.base + bytes) right) (live_in c.args.level (c.args.base + bytes) c.take.new.nodes) c.take.result)
    c.bytes_at.ensures c.take.ensures.gives in
    subst (λ (xs : List Node). Gives c.args.base (2 * part_bytes c.args.level) (part_bytes c.args.wanted)
    (live_below c.args.level c.args.base xs) (live_below c.args.level c.args.base (c.take-found.new.nodes ++ c.take.new.nodes))
    c.take.result)
    (sym c.split_at_mut-left.ensures.value)
    (gives_second c.args.level c.args.base left right c.take-found.new.nodes long long_later c.args.wanted c.take.new.nodes
    c.take-found.result c.take.result none c.requires.fits part c.take-found.ensures.gives gives)
