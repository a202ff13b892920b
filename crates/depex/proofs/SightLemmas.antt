-- What is found at a place is one thing: a function of the bytes there tells it.
use Rattle.std.proofs.Common.{◌≡◌, ℕ, zero, suc, ◌+◌, ◌<◌, ◌≤◌, if◌then◌else◌, ◌==◌, nat_lt, List, [], ◌∷◌, ◌++◌, length, take, refl, sym, ap, ◌∙◌, subst, length-append, arith}
use Rattle.std.proofs.lemmas.List.{take_at}
use Rattle.std.proofs.lemmas.Bool.Decides.{nat_tests}
use Rattle.mm_base.specs.declared.guid.Guid.{Guid}
use Rattle.mm_base.specs.declared.expression.DepexFault.{DepexFault}
use Rattle.mm_base.specs.declared.expression.DepexFault.TheVariants.{Empty, NoEnd, Unknown, Underflow, Leftover, BeforeNotFirst, TooDeep}
use Rattle.depex.specs.declared.item.Item.{Item}
use Rattle.depex.specs.declared.item.Item.TheVariants as items
use Rattle.depex.specs.declared.found.Found.{Found}
use Rattle.depex.specs.declared.found.Found.TheVariants.{End, Next, Refused}
use Rattle.depex.specs.Trees.{opcode_of, taken_by, item_bytes}
use Rattle.depex.specs.Expressions.{IsRefused, StopsAt}
use Rattle.depex.specs.FindingInside.{IsWhole, MayStand, FindsItem, EndsAt}

-- an operand
abbrev pub operand : ℕ → ℕ → Item → Found
operand n at item = if n == 256 then Refused (TooDeep at) else Next item

-- an operator
abbrev pub operator : ℕ → ℕ → Item → Found
operator n at item = if nat_lt n (taken_by item) then Refused (Underflow at) else Next item

-- a PUSH
abbrev pub pushed : ℕ → ℕ → List ℕ → Found
pushed n at behind =
    if n == 256 then Refused (TooDeep at)
    else (if nat_lt (length behind) 16 then Refused NoEnd else Next (items.Push (record { 0 = take 16 behind })))

-- an END
abbrev pub ended : ℕ → ℕ → Found
ended zero at = Refused Empty
ended (suc zero) at = End
ended (suc (suc n)) at = Refused (Leftover at)

-- an opcode
abbrev pub judged : ℕ → ℕ → List ℕ → ℕ → Found
judged n at behind zero = Refused (BeforeNotFirst at)
judged n at behind (suc zero) = Refused (BeforeNotFirst at)
judged n at behind (suc (suc zero)) = pushed n at behind
judged n at behind (suc (suc (suc zero))) = operator n at items.And
judged n at behind (suc (suc (suc (suc zero)))) = operator n at items.Or
judged n at behind (suc (suc (suc (suc (suc zero))))) = operator n at items.Not
judged n at behind (suc (suc (suc (suc (suc (suc zero)))))) = operand n at items.True
judged n at behind (suc (suc (suc (suc (suc (suc (suc zero))))))) = operand n at items.False
judged n at behind (suc (suc (suc (suc (suc (suc (suc (suc zero)))))))) = ended n at
judged n at behind (suc (suc (suc (suc (suc (suc (suc (suc (suc opcode))))))))) = Refused (Unknown at)

-- what bytes begin with
abbrev pub sight : ℕ → ℕ → List ℕ → Found
sight n at [] = Refused NoEnd
sight n at (opcode ∷ behind) = judged n at behind opcode

-- ---- whatever is found is what is seen

leftover : (n at place : ℕ) → place ≡ at → 2 ≤ n → ended n at ≡ Refused (Leftover place)
leftover zero at place is two = absurd (omega arith)
leftover (suc zero) at place is two = absurd (omega arith)
leftover (suc (suc n)) at place is two = ap (λ p. Refused (Leftover p)) (sym is)

unknown : (n at : ℕ) (behind : List ℕ) (opcode place : ℕ) → place ≡ at → 8 < opcode
    → judged n at behind opcode ≡ Refused (Unknown place)
unknown n at behind zero place is above = absurd (omega arith)
unknown n at behind (suc zero) place is above = absurd (omega arith)
unknown n at behind (suc (suc zero)) place is above = absurd (omega arith)
unknown n at behind (suc (suc (suc zero))) place is above = absurd (omega arith)
unknown n at behind (suc (suc (suc (suc zero)))) place is above = absurd (omega arith)
unknown n at behind (suc (suc (suc (suc (suc zero))))) place is above = absurd (omega arith)
unknown n at behind (suc (suc (suc (suc (suc (suc zero)))))) place is above = absurd (omega arith)
unknown n at behind (suc (suc (suc (suc (suc (suc (suc zero))))))) place is above = absurd (omega arith)
unknown n at behind (suc (suc (suc (suc (suc (suc (suc (suc zero)))))))) place is above = absurd (omega arith)
unknown n at behind (suc (suc (suc (suc (suc (suc (suc (suc (suc opcode))))))))) place is above = ap (λ p. Refused (Unknown p)) (sym is)

not_first : (n at : ℕ) (behind : List ℕ) (opcode place : ℕ) → place ≡ at → opcode ≤ 1
    → judged n at behind opcode ≡ Refused (BeforeNotFirst place)
not_first n at behind zero place is low = ap (λ p. Refused (BeforeNotFirst p)) (sym is)
not_first n at behind (suc zero) place is low = ap (λ p. Refused (BeforeNotFirst p)) (sym is)
not_first n at behind (suc (suc opcode)) place is low = absurd (omega arith)

no_guid : (n at : ℕ) (behind : List ℕ) → n < 256 → length behind < 16 → pushed n at behind ≡ Refused NoEnd
no_guid n at behind room short = grind (arith, nat_tests)

few : (n at : ℕ) (item : Item) (place : ℕ) → place ≡ at → n < taken_by item → operator n at item ≡ Refused (Underflow place)
few n at item place is less = grind (arith, nat_tests)

full : (n at : ℕ) (item : Item) (place : ℕ) → place ≡ at → n ≡ 256 → operand n at item ≡ Refused (TooDeep place)
full n at item place is most = grind (arith, nat_tests)

full_push : (n at : ℕ) (behind : List ℕ) (place : ℕ) → place ≡ at → n ≡ 256 → pushed n at behind ≡ Refused (TooDeep place)
full_push n at behind place is most = grind (arith, nat_tests)

underflow : (n at : ℕ) (behind : List ℕ) (place : ℕ) (item : Item) → place ≡ at → n < taken_by item
    → judged n at behind (opcode_of item) ≡ Refused (Underflow place)
underflow n at behind place (items.Push guid) is less = absurd (omega arith)
underflow n at behind place items.True is less = absurd (omega arith)
underflow n at behind place items.False is less = absurd (omega arith)
underflow n at behind place items.Not is less = few n at items.Not place is less
underflow n at behind place items.And is less = few n at items.And place is less
underflow n at behind place items.Or is less = few n at items.Or place is less

too_deep : (n at : ℕ) (behind : List ℕ) (place : ℕ) (item : Item) → place ≡ at → taken_by item ≡ 0 → n ≡ 256
    → judged n at behind (opcode_of item) ≡ Refused (TooDeep place)
too_deep n at behind place (items.Push guid) is none most = full_push n at behind place is most
too_deep n at behind place items.True is none most = full n at items.True place is most
too_deep n at behind place items.False is none most = full n at items.False place is most
too_deep n at behind place items.Not is none most = absurd (omega arith)
too_deep n at behind place items.And is none most = absurd (omega arith)
too_deep n at behind place items.Or is none most = absurd (omega arith)

refused_judged : (n at opcode : ℕ) (behind : List ℕ) (fault : DepexFault) → (at ≡ 0 → n ≡ 0)
    → IsRefused n at opcode behind fault
    → judged n at behind opcode ≡ Refused fault
refused_judged n at opcode behind Empty first refused =
    let P : ℕ → Type 0 = λ opcode. judged n at behind opcode ≡ Refused Empty in
    let Q : ℕ → Type 0 = λ n. ended n at ≡ Refused Empty in
    subst P (sym refused.1) (subst Q (sym (first refused.0)) refl)
refused_judged n at opcode behind (Leftover place) first refused =
    let P : ℕ → Type 0 = λ opcode. judged n at behind opcode ≡ Refused (Leftover place) in
    subst P (sym refused.1) (leftover n at place refused.0 refused.2)
refused_judged n at opcode behind NoEnd first refused =
    let P : ℕ → Type 0 = λ opcode. judged n at behind opcode ≡ Refused NoEnd in
    subst P (sym refused.0) (no_guid n at behind refused.1 refused.2)
refused_judged n at opcode behind (Unknown place) first refused = unknown n at behind opcode place refused.0 refused.1
refused_judged n at opcode behind (Underflow place) first refused =
    let P : ℕ → Type 0 = λ opcode. judged n at behind opcode ≡ Refused (Underflow place) in
    subst P (sym refused.2) (underflow n at behind place refused.1 refused.0 refused.3)
refused_judged n at opcode behind (BeforeNotFirst place) first refused = not_first n at behind opcode place refused.0 refused.2
refused_judged n at opcode behind (TooDeep place) first refused =
    let P : ℕ → Type 0 = λ opcode. judged n at behind opcode ≡ Refused (TooDeep place) in
    subst P (sym refused.2) (too_deep n at behind place refused.1 refused.0 refused.3 refused.4)

pub stops_seen : (n at : ℕ) (there : List ℕ) (fault : DepexFault) → (at ≡ 0 → n ≡ 0) → StopsAt n at there fault
    → sight n at there ≡ Refused fault
stops_seen n at [] fault first stops = ap (λ f. Refused f) (sym stops)
stops_seen n at (opcode ∷ behind) fault first stops = refused_judged n at opcode behind fault first stops

pub ends_seen : (n at : ℕ) (there : List ℕ) → EndsAt n there → sight n at there ≡ End
ends_seen n at [] ends = absurd ends
ends_seen n at (opcode ∷ behind) ends =
    let P : ℕ → Type 0 = λ opcode. judged n at behind opcode ≡ End in
    let Q : ℕ → Type 0 = λ n. ended n at ≡ End in
    subst P (sym ends.0) (subst Q (sym ends.1) refl)

enough : (n at : ℕ) (item : Item) → taken_by item ≤ n → operator n at item ≡ Next item
enough n at item may = grind (arith, nat_tests)

roomy : (n at : ℕ) (item : Item) → n < 256 → operand n at item ≡ Next item
roomy n at item room = grind (arith, nat_tests)

whole_push : (n at : ℕ) (guid : Guid) (behind : List ℕ) → n < 256 → length guid.0 ≡ 16
    → pushed n at (guid.0 ++ behind) ≡ Next (items.Push guid)
whole_push n at guid behind room whole =
    let long : length (guid.0 ++ behind) ≡ 16 + length behind = omega (arith, length-append guid.0 behind) in
    let front : take 16 (guid.0 ++ behind) ≡ guid.0 = take_at guid.0 behind 16 whole in
    let seen : pushed n at (guid.0 ++ behind) ≡ Next (items.Push (record { 0 = take 16 (guid.0 ++ behind) })) = grind (arith, nat_tests) in
    seen ∙ ap (λ (bytes : List ℕ). Next (items.Push (record { 0 = bytes }))) front

item_seen : (n at : ℕ) (behind : List ℕ) (item : Item) → IsWhole item → MayStand n item
    → sight n at (item_bytes item ++ behind) ≡ Next item
item_seen n at behind (items.Push guid) whole may = whole_push n at guid behind (may.room refl) whole
item_seen n at behind items.True whole may = roomy n at items.True (may.room refl)
item_seen n at behind items.False whole may = roomy n at items.False (may.room refl)
item_seen n at behind items.Not whole may = enough n at items.Not may.enough
item_seen n at behind items.And whole may = enough n at items.And may.enough
item_seen n at behind items.Or whole may = enough n at items.Or may.enough

pub next_seen : (n at : ℕ) (there : List ℕ) (item : Item) → FindsItem n there item → sight n at there ≡ Next item
next_seen n at there item found =
    let P : List ℕ → Type 0 = λ there. sight n at there ≡ Next item in
    subst P (sym found.begins) (item_seen n at found.behind item found.whole found.may)
