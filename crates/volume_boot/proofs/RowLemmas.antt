-- How many rows there are where each is of one of a few images, and no image has many.
use Rattle.std.proofs.Common.{◌≡◌, ℕ, zero, suc, ◌+◌, ◌*◌, ◌≤◌, false, List, [], ◌∷◌, length, filter, nat_lt, sym, ap, ◌∙◌, subst, arith}
use Rattle.std.proofs.lemmas.Bool.Decides.{nat_tests}
use Rattle.std.proofs.lemmas.List.Elements.{All-head, All-tail}
use Rattle.driver_start.specs.Hosts.{AreBefore}
use Rattle.supervisor_calls.specs.Tables.{TablesState}
use Rattle.supervisor_calls.specs.Within.{IsOrderly}
use Rattle.volume_boot.specs.Boots.{AreBooted, locked}
use Rattle.protocol_db.specs.Rows.{is_owned_by, owned_by}
use Rattle.protocol_db.specs.declared.protocol_row.Row.{Row}

-- the rows of the images below this one
abbrev below : ℕ → List Row → List Row
below n rows = filter (λ row. nat_lt row.owner n) rows

-- one image more adds its own rows
one_more : (n : ℕ) (rows : List Row) → length (below (suc n) rows) ≤ length (below n rows) + length (owned_by n rows)
one_more n [] = omega arith
one_more n (row ∷ rows) =
    let rest = one_more n rows in
    grind (arith, nat_tests, rest)

none_below : (rows : List Row) → length (below zero rows) ≤ zero
none_below [] = omega arith
none_below (row ∷ rows) =
    let rest = none_below rows in
    grind (arith, nat_tests, rest)

few_below : (n : ℕ) (rows : List Row) → ((owner : ℕ) → length (owned_by owner rows) ≤ 16) → length (below n rows) ≤ 16 * n
few_below zero rows few = omega (arith, none_below rows)
few_below (suc n) rows few = omega (arith, one_more n rows, few_below n rows few, few n)

all_below : (n : ℕ) (rows : List Row) → AreBefore is_owned_by n rows → length rows ≤ length (below n rows)
all_below n [] before = omega arith
all_below n (row ∷ rows) before =
    let Before : Row → Type 0 = λ item. (image : ℕ) → n ≤ image → is_owned_by image item ≡ false in
    let rest = all_below n rows (All-tail Before row rows before) in
    let own : n ≤ row.owner → is_owned_by row.owner row ≡ false = All-head Before row rows before row.owner in
    grind (arith, nat_tests, rest, own)

pub rows_few : (n : ℕ) (rows : List Row) → AreBefore is_owned_by n rows → n ≤ 32 → ((owner : ℕ) → length (owned_by owner rows) ≤ 16)
    → length rows ≤ 512
rows_few n rows before images few = omega (arith, all_below n rows before, few_below n rows few, images)

-- a host's tables are booted once they are locked
pub booted : (host tables after : TablesState) → tables ≡ host → after ≡ locked tables
    → AreBefore is_owned_by (length host.site.images) host.protocols.rows
    → length after.site.images ≤ 32
    → ((owner : ℕ) → length (owned_by owner after.protocols.rows) ≤ 16)
    → IsOrderly after
    → AreBooted after
booted host tables after same is before images few orderly =
    let all : after ≡ locked host = is ∙ ap locked same in
    let Before : TablesState → Type 0 = λ t. AreBefore is_owned_by (length t.site.images) t.protocols.rows in
    record {
      locked = ap (λ (t : TablesState). t.locked) all;
      orderly = orderly;
      few = rows_few (length after.site.images) after.protocols.rows (subst Before (sym all) before) images few;
    }
