-- The units at which what an image may reach can change: where a window of the platform's map, a range of a rule or a home range begins or
-- ends. Between two of them, one after another, nothing changes.
use Rattle.std.specs.Prelude.{ℕ, ◌+◌, ◌^◌, if◌then◌else◌, nat_lt, nat_le, max, List, [], ◌∷◌, ◌++◌, filter}
use Rattle.std.specs.List.{flat_map}
use Rattle.image_table.specs.HomeRanges.{home_ranges}
use Rattle.image_table.specs.declared.placed_image.PlacedImage.{PlacedImage}
use Rattle.mm_base.specs.Kinds.{same_kind}
use Rattle.mm_base.specs.declared.access.Kind.{Kind}
use Rattle.mm_base.specs.declared.access.Kind.TheVariants.{Memory, Io, Msr, Saved}
use Rattle.mm_base.specs.declared.policy.Rule.{Rule}
use Rattle.mm_base.specs.declared.range.Range.{Range}
use Rattle.supervisor_calls.specs.Tables.{Site}

-- The begins and ends of the windows with units of a kind, 0 among them: the lanes' window, memory and the device bytes; ports; the lower
-- and the upper model-specific registers; saved registers.
abbrev pub window_ends : Kind → List ℕ
window_ends Memory = 0 ∷ 0x40000000 ∷ 0x40100000 ∷ 0x80000000 ∷ 0x82000000 ∷ 0xfe000000 ∷ 0xfe010000 ∷ []
window_ends Io = 0 ∷ 0x10000 ∷ []
window_ends Msr = 0 ∷ 0x2000 ∷ 0xc0000000 ∷ 0xc0002000 ∷ []
window_ends Saved = 0 ∷ 19 ∷ []

-- where a range begins, and where it ends; an end past the last unit that there is counts as 0
abbrev pub range_ends : Range → List ℕ
range_ends range =
    let past = range.base + range.length in
    range.base ∷ (if nat_lt past (2 ^ 64) then past else 0) ∷ []

-- those of the rules of a kind, in their order
abbrev pub rule_ends : Kind → List Rule → List ℕ
rule_ends kind rules = flat_map (λ rule. range_ends rule.range) (filter (λ rule. same_kind rule.kind kind) rules)

-- those of the home ranges of images, in their order
abbrev pub home_ends : List PlacedImage → List ℕ
home_ends images = flat_map (λ image. flat_map (λ home. range_ends home.0) (home_ranges image)) images

-- All of a kind. Only bytes of memory are home to an image.
abbrev pub ends_of : Kind → Site → List ℕ
ends_of kind site =
    window_ends kind ++ rule_ends kind site.policy.rules ++ (if same_kind kind Memory then home_ends site.images else [])

-- the greatest of some units that isn't above a unit; 0 where there is none
abbrev pub last_up_to : ℕ → List ℕ → ℕ
last_up_to unit [] = 0
last_up_to unit (end ∷ ends) = if nat_le end unit then max end (last_up_to unit ends) else last_up_to unit ends
