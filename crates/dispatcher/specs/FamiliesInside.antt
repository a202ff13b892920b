-- No public clause cites this file.
-- How drivers are scheduled with those that go with them.
use Rattle.std.specs.Prelude.{◌≡◌, ℕ, zero, suc, ◌+◌, ◌*◌, Bool, true, false, not, Option, Some, None, List, All, [], ◌∷◌, ◌++◌, map, filter, length, slice_get}
use Rattle.std.specs.List.{flat_map, AllByRecursion}
use Rattle.std.specs.Option.{option_to_list}
use Rattle.mm_base.specs.declared.guid.Guid.{Guid}
use Rattle.depex.specs.Expressions.{Expression, Condition, Before, After}
use Rattle.dispatcher.specs.Drivers.{is_true, member_of, naming}
use Rattle.dispatcher.specs.IndexInside.{listed}
use Rattle.dispatcher.specs.Rounds.{family, family_of}
use Rattle.dispatcher.specs.declared.driver.Driver.{Driver}
use Rattle.dispatcher.specs.declared.driver.Member.{Member}
use Rattle.dispatcher.specs.declared.families.Step.{Step}
use Rattle.dispatcher.specs.declared.families.Step.TheVariants.{Family, Alone}
use Rattle.dispatcher.specs.declared.name_index.NameIndex.{NameIndex}

-- An index tells, for each name, the drivers that name it by this word.
abbrev pub Tells : (Expression → Option Guid) → List Driver → NameIndex → Type 0
Tells word drivers index = (name : Guid) → listed index name ≡ map member_of (naming word drivers name)

-- One driver more was added to the list that it names by this word, if it names one.
abbrev pub AddsIf : (Expression → Option Guid) → Driver → NameIndex → NameIndex → Type 0
AddsIf word driver old new = (name : Guid) → listed new name ≡ listed old name ++ map member_of (naming word (driver ∷ []) name)

-- the list of a member's name
abbrev pub listed_for : NameIndex → Member → List Member
listed_for index member = listed index member.name

-- whether an expression, if there is one, is a condition
abbrev pub is_condition : Option Expression → Bool
is_condition None = false
is_condition (Some (Condition _)) = true
is_condition (Some (Before _)) = false
is_condition (Some (After _)) = false

-- whether a driver has a condition
abbrev pub has_condition : Driver → Bool
has_condition driver = is_condition driver.depex

-- the drivers at places
abbrev pub picked : List Driver → List ℕ → List Driver
picked drivers places = flat_map (λ place. option_to_list (slice_get drivers place)) places

-- There is a driver at a place, and it has a condition.
pub record HasConditionAt (drivers : List Driver) (place : ℕ) : Type 0 where
  pub driver : Driver
  pub there : slice_get drivers place ≡ Some driver
  pub conditional : has_condition driver ≡ true

-- those of some drivers whose condition holds, each with all that go with it
abbrev pub families_at : (Guid → Bool) → List Driver → List Driver → List Driver
families_at installed drivers some = flat_map (family_of drivers) (filter (is_true installed) some)

-- No chain of those that go with something has more links than this.
abbrev pub Fits : {X : Type 0} → (X → List X) → (X → List X) → ℕ → X → Type 0
Fits before after zero x = (before x ≡ []) × (after x ≡ [])
Fits before after (suc links) x = AllByRecursion (Fits before after links) (before x) × AllByRecursion (Fits before after links) (after x)

-- the steps that a family opens into, in front of others
abbrev pub opened : NameIndex → NameIndex → Member → List Step → List Step
opened before after member steps =
    map Family (listed_for before member) ++ Alone member ∷ (map Family (listed_for after member) ++ steps)

-- the members that steps put there
abbrev pub meant : (Member → List Member) → (Member → List Member) → ℕ → Step → List Member
meant before after links (Family member) = family before after links member
meant before after links (Alone member) = member ∷ []

-- what steps cost
abbrev pub cost : (Member → List Member) → (Member → List Member) → ℕ → Step → ℕ
cost before after links (Family member) = 2 * length (family before after links member)
cost before after links (Alone member) = 1

abbrev pub costs : (Member → List Member) → (Member → List Member) → ℕ → List Step → ℕ
costs before after links [] = 0
costs before after links (step ∷ steps) = cost before after links step + costs before after links steps

-- The family of a step, if it stands for one, fits.
abbrev pub FitsStep : (Member → List Member) → (Member → List Member) → ℕ → Step → Type 0
FitsStep before after links (Family member) = Fits before after links member
FitsStep before after links (Alone member) = Unit {0}

-- What is done of a family: the members that were scheduled, with what the steps put behind them, are all, and families fit.
pub record Doing (before after : Member → List Member) (links : ℕ) (steps : List Step) (scheduled all : List Member) : Type 0 where
  pub rest : scheduled ++ flat_map (meant before after links) steps ≡ all
  pub fits : AllByRecursion (FitsStep before after links) steps

-- What a round has taken of the drivers at places, where these places are left: with what it takes of those it takes all, and likewise
-- with those that go on waiting.
pub record Taking (installed : Guid → Bool) (drivers : List Driver) (all rest : List ℕ) (scheduled : List Member) (still : List ℕ) : Type 0 where
  pub members : scheduled ++ map member_of (families_at installed drivers (picked drivers rest)) ≡ map member_of (families_at installed drivers (picked drivers all))
  pub left :
      picked drivers still ++ filter (λ driver. not (is_true installed driver)) (picked drivers rest)
      ≡ filter (λ driver. not (is_true installed driver)) (picked drivers all)
  pub each : All (HasConditionAt drivers) still
