-- A rule and its bytes.
use Rattle.std.proofs.Common.{◌≡◌, ℕ, ◌+◌, ◌≤◌, ◌<◌, ◌^◌, Bool, true, false, ◌&&◌, ◌==◌, nat_le, List, ◌++◌, length, take, drop, None, refl, sym, ap, ◌∙◌, subst, append_assoc, arith}
use Rattle.std.proofs.lemmas.Bool.Decides.{nat_tests}
use Rattle.std.proofs.lemmas.List.{take_at, drop_at, take_all, drop-drop}
use Rattle.std.specs.Int.{to_le_bytes, w16, w32, w64}
use Rattle.mm_base.specs.Checks.{first_failing}
use Rattle.mm_base.specs.Numbers.{number_of, number_in}
use Rattle.mm_base.specs.Policies.{AreRights, IsRule}
use Rattle.mm_base.specs.declared.access.Kind.{Kind}
use Rattle.mm_base.specs.declared.access.Kind.TheVariants.{Memory, Io, Msr, Saved}
use Rattle.mm_base.specs.declared.policy.Rule.{Rule}
use Rattle.mm_base.proofs.CheckLemmas.{AllPass, all_pass, none_fails}
use Rattle.mm_base.proofs.NumberLemmas.{number_of-bytes_of_word}
use Rattle.policy_blob.specs.Faults.{action_said, rights_said, length_said, are_rights, is_range, rule_checks}
use Rattle.policy_blob.specs.ReadingInside.{Says}
use Rattle.policy_blob.specs.Spelling.{kind_number, action_number, rule_bytes}
use Rattle.policy_blob.proofs.FieldLemmas.{AreSmall, number_2, number_4, field_2, field_4, field_8, field_long, word_small, joined}

kind_small : (kind : Kind) → kind_number kind < 2 ^ 16
kind_small Memory = omega arith
kind_small Io = omega arith
kind_small Msr = omega arith
kind_small Saved = omega arith

kind_passes : (kind : Kind) → (nat_le 1 (kind_number kind) && nat_le (kind_number kind) 4) ≡ true
kind_passes Memory = refl
kind_passes Io = refl
kind_passes Msr = refl
kind_passes Saved = refl

action_small : (allow : Bool) → action_number allow < 2 ^ 16
action_small true = omega arith
action_small false = omega arith

action_passes : (allow : Bool) → nat_le (action_number allow) 1 ≡ true
action_passes true = refl
action_passes false = refl

-- the action that a number tells
action_told : (allow : Bool) → (action_number allow == 1) ≡ allow
action_told true = refl
action_told false = refl

-- rights are judged by the action that a rule says
pub rights_by : (bytes : List ℕ) (allow : Bool) → action_number allow ≡ action_said bytes
    → are_rights (action_said bytes == 1) (rights_said bytes) ≡ are_rights allow (rights_said bytes)
rights_by bytes allow is =
    ap (λ (a : ℕ). are_rights (a == 1) (rights_said bytes)) (sym is) ∙ ap (λ (allow : Bool). are_rights allow (rights_said bytes)) (action_told allow)

rights_small : (allow : Bool) (rights : ℕ) → AreRights allow rights → rights ≤ 3
rights_small true rights are = are.1
rights_small false rights are = omega (arith, are)

rights_pass : (allow : Bool) (rights : ℕ) → AreRights allow rights → are_rights allow rights ≡ true
rights_pass true rights are = grind (arith, nat_tests, are)
rights_pass false rights are = grind (arith, nat_tests, are)

pub rights_lawful : (allow : Bool) (rights : ℕ) → are_rights allow rights ≡ true → AreRights allow rights
rights_lawful true rights pass = (grind (arith, nat_tests, pass), grind (arith, nat_tests, pass))
rights_lawful false rights pass = grind (arith, nat_tests, pass)

-- a rule's bytes, field by field
pub in_fields : (rule : Rule)
    → rule_bytes rule
    ≡ to_le_bytes w16 (kind_number rule.kind) ++ (to_le_bytes w16 (action_number rule.allow) ++ (to_le_bytes w32 rule.rights
    ++ (rule.owner.0 ++ (to_le_bytes w64 rule.range.base ++ to_le_bytes w64 rule.range.length))))
in_fields rule =
    ap (λ (rest : List ℕ). to_le_bytes w16 (kind_number rule.kind) ++ (to_le_bytes w16 (action_number rule.allow) ++ (to_le_bytes w32 rule.rights ++ rest)))
    (append_assoc rule.owner.0 (to_le_bytes w64 rule.range.base) (to_le_bytes w64 rule.range.length))

-- ---- what a rule's bytes say

module _ (rule : Rule) (lawful : IsRule rule) where
  words_behind : drop 24 (rule_bytes rule) ≡ to_le_bytes w64 rule.range.base ++ to_le_bytes w64 rule.range.length
  words_behind =
      ap (drop 24) (in_fields rule) ∙ drop_at rule.owner.0 (to_le_bytes w64 rule.range.base ++ to_le_bytes w64 rule.range.length) 16 lawful.owner

  length_behind : drop 32 (rule_bytes rule) ≡ to_le_bytes w64 rule.range.length
  length_behind = sym (drop-drop 8 24 (rule_bytes rule)) ∙ ap (drop 8) words_behind

  base_small : rule.range.base < 2 ^ 64
  base_small = omega (arith, lawful.some, lawful.fits)

  -- the bytes of a lawful rule say what it says
  pub spelled_says : (bytes : List ℕ) → bytes ≡ rule_bytes rule → Says bytes rule
  spelled_says bytes is =
      let few : rule.rights ≤ 3 = rights_small rule.allow rule.rights lawful.rights in
      record {
        kind = sym (ap (λ (b : List ℕ). number_in b 0 2) is ∙ number_2 (kind_number rule.kind) (kind_small rule.kind));
        action = sym (ap (λ (b : List ℕ). number_in b 2 2) is ∙ number_2 (action_number rule.allow) (action_small rule.allow));
        rights = sym (ap (λ (b : List ℕ). number_in b 4 4) is ∙ number_4 rule.rights (omega (arith, few)));
        owner = sym (ap (λ (b : List ℕ). take 16 (drop 8 b)) (is ∙ in_fields rule)
            ∙ take_at rule.owner.0 (to_le_bytes w64 rule.range.base ++ to_le_bytes w64 rule.range.length) 16 lawful.owner);
        base = sym (ap (λ (b : List ℕ). number_in b 24 8) is ∙ ap (λ (b : List ℕ). number_of (take 8 b)) words_behind
            ∙ number_of-bytes_of_word rule.range.base base_small);
        length = sym (ap (λ (b : List ℕ). number_in b 32 8) is ∙ ap (λ (b : List ℕ). number_of (take 8 b)) length_behind
            ∙ number_of-bytes_of_word rule.range.length lawful.most);
      }

  -- and pass its checks
  pub rule_passes : (at : ℕ) (bytes : List ℕ) → Says bytes rule → first_failing (rule_checks at bytes) ≡ None
  rule_passes at bytes says =
      none_fails (rule_checks at bytes) (
        ap (λ (k : ℕ). nat_le 1 k && nat_le k 4) (sym says.kind) ∙ kind_passes rule.kind,
        (
          ap (λ (a : ℕ). nat_le a 1) (sym says.action) ∙ action_passes rule.allow,
          (
            ap (λ (a : ℕ). are_rights (a == 1) (rights_said bytes)) (sym says.action)
                ∙ ap (λ (allow : Bool). are_rights allow (rights_said bytes)) (action_told rule.allow)
                ∙ ap (are_rights rule.allow) (sym says.rights) ∙ rights_pass rule.allow rule.rights lawful.rights,
            (
              ap (λ (b : ℕ). is_range b (length_said bytes)) (sym says.base) ∙ ap (is_range rule.range.base) (sym says.length)
                  ∙ grind (arith, nat_tests, lawful.some, lawful.fits),
              tt,
            ),
          ),
        ),
      )

-- ---- the rule that bytes say

module _ (bytes : List ℕ) (small : AreSmall bytes) (long : length bytes ≡ 40) (rule : Rule) (says : Says bytes rule) where
  within : (at n : ℕ) → at + n ≤ 40 → at + n ≤ length bytes
  within at n h = omega (arith, h, long)

  -- a rule that says what bytes say has these bytes
  pub says_spelled : bytes ≡ rule_bytes rule
  says_spelled =
      sym (take_all 40 bytes (omega (arith, long)))
      ∙ joined bytes (to_le_bytes w16 (kind_number rule.kind)) _ 0 2 38 (sym (field_2 bytes small 0 (within 0 2 (omega arith))) ∙ ap (to_le_bytes w16) (sym says.kind))
      (joined bytes (to_le_bytes w16 (action_number rule.allow)) _ 2 2 36 (sym (field_2 bytes small 2 (within 2 2 (omega arith))) ∙ ap (to_le_bytes w16) (sym says.action))
      (joined bytes (to_le_bytes w32 rule.rights) _ 4 4 32 (sym (field_4 bytes small 4 (within 4 4 (omega arith))) ∙ ap (to_le_bytes w32) (sym says.rights))
      (joined bytes rule.owner.0 _ 8 16 16 (sym says.owner)
      (joined bytes (to_le_bytes w64 rule.range.base) _ 24 8 8 (sym (field_8 bytes small 24 (within 24 8 (omega arith))) ∙ ap (to_le_bytes w64) (sym says.base))
      (sym (field_8 bytes small 32 (within 32 8 (omega arith))) ∙ ap (to_le_bytes w64) (sym says.length))))))
      ∙ sym (in_fields rule)

  -- and is lawful where they pass the checks
  pub says_lawful : (at : ℕ) → first_failing (rule_checks at bytes) ≡ None → IsRule rule
  says_lawful at none =
      let pass : AllPass (rule_checks at bytes) = all_pass (rule_checks at bytes) none in
      let right : are_rights rule.allow rule.rights ≡ true =
      ap (are_rights rule.allow) says.rights ∙ ap (λ (allow : Bool). are_rights allow (rights_said bytes)) (sym (action_told rule.allow))
      ∙ ap (λ (a : ℕ). are_rights (a == 1) (rights_said bytes)) says.action ∙ pass.1.1.0 in
      let range : is_range rule.range.base rule.range.length ≡ true =
      ap (is_range rule.range.base) says.length ∙ ap (λ (b : ℕ). is_range b (length_said bytes)) says.base ∙ pass.1.1.1.0 in
      record {
        rights = rights_lawful rule.allow rule.rights right;
        owner = ap length says.owner ∙ field_long bytes small 8 16 (within 8 16 (omega arith));
        some = grind (arith, nat_tests, range);
        most = let P : ℕ → Type 0 = λ n. n < 2 ^ 64 in subst P (sym says.length) (word_small bytes small 32 (within 32 8 (omega arith)));
        fits = grind (arith, nat_tests, range);
      }
