-- Rules that are written one after another.
use Rattle.std.proofs.Common.{◌≡◌, ℕ, ◌+◌, ◌*◌, ◌≤◌, ◌<◌, List, [], ◌∷◌, ◌++◌, length, take, get_or, All, sym, ap, ◌∙◌, append_assoc, arith}
use Rattle.std.proofs.lemmas.Grind.{flat_map-append}
use Rattle.std.proofs.lemmas.List.{append-nil, length-take-le, take_more, take_all}
use Rattle.std.proofs.lemmas.List.Elements.{All-take}
use Rattle.mm_base.specs.Policies.{IsRule}
use Rattle.mm_base.specs.Room.{RoomState}
use Rattle.mm_base.specs.declared.policy.Policy.{Policy}
use Rattle.mm_base.specs.declared.policy.Rule.{Rule}
use Rattle.policy_blob.specs.Spelling.{header_bytes, rule_bytes, bytes_of_rules, spelled}
use Rattle.policy_blob.proofs.RulesLemmas.{length-bytes_of_rules}

-- the header is written, and the first so many rules
pub record Written (policy : Policy) (n : ℕ) (out : RoomState ℕ) : Type 0 where
  pub text : out.items ≡ header_bytes policy ++ bytes_of_rules (take n policy.rules)
  pub room : out.room ≡ 16 + 40 * length policy.rules

module _ (policy : Policy) (n : ℕ) (out : RoomState ℕ) (written : Written policy n out) where
  pub room_left : All IsRule policy.rules → n < length policy.rules → length out.items + 40 ≤ out.room
  room_left lawful more =
      omega (
        arith,
        more,
        written.room,
        ap length written.text,
        length-bytes_of_rules (take n policy.rules) (All-take IsRule n policy.rules lawful),
        length-take-le n policy.rules (omega (arith, more)),
      )

  pub written_more : (new : RoomState ℕ) (rule d : Rule) → n < length policy.rules → rule ≡ get_or policy.rules n d
      → new ≡ record { items = out.items ++ rule_bytes rule; room = out.room } → Written policy (n + 1) new
  written_more new rule d more is adds =
      let one : bytes_of_rules (take (n + 1) policy.rules) ≡ bytes_of_rules (take n policy.rules) ++ rule_bytes rule =
      ap bytes_of_rules (take_more policy.rules n d more) ∙ flat_map-append rule_bytes (take n policy.rules) (get_or policy.rules n d ∷ [])
      ∙ ap (λ (r : Rule). bytes_of_rules (take n policy.rules) ++ (rule_bytes r ++ [])) (sym is)
      ∙ ap (λ (b : List ℕ). bytes_of_rules (take n policy.rules) ++ b) (append-nil (rule_bytes rule)) in
      record {
        text =
            ap (λ (r : RoomState ℕ). r.items) adds ∙ ap (λ (b : List ℕ). b ++ rule_bytes rule) written.text
            ∙ append_assoc (header_bytes policy) (bytes_of_rules (take n policy.rules)) (rule_bytes rule)
            ∙ ap (λ (b : List ℕ). header_bytes policy ++ b) (sym one);
        room = ap (λ (r : RoomState ℕ). r.room) adds ∙ written.room;
      }

pub written_all : (policy : Policy) (out : RoomState ℕ) (n : ℕ) → length policy.rules ≤ n → Written policy n out → out.items ≡ spelled policy
written_all policy out n all written =
    written.text ∙ ap (λ (rules : List Rule). header_bytes policy ++ bytes_of_rules rules) (take_all n policy.rules all)
