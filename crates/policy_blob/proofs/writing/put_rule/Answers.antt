use Rattle.std.proofs.Common.{ap, ◌∙◌, ◌++◌}
use Rattle.std.specs.Int.{to_le_bytes, w16, w32, w64}
use Rattle.policy_blob.specs.Spelling.{kind_number, action_number}
use Rattle.policy_blob.proofs.PutLemmas.{both, named}
use Rattle.policy_blob.proofs.writing.put_rule.Goals as goal

pub returns : goal.returns
returns c =
    let rule = c.args.rule.now in
    let kind = named c.args.out.now c.extend.new.self c.to_le_bytes.result (to_le_bytes w16 (kind_number rule.kind)) c.extend.ensures (c.to_le_bytes.ensures ∙ ap (to_le_bytes w16) c.number_of_kind.ensures) in
    let action = named c.extend.new.self c.extend-2.new.self c.to_le_bytes-2.result (to_le_bytes w16 (action_number rule.allow)) c.extend-2.ensures (c.to_le_bytes-2.ensures ∙ ap (to_le_bytes w16) c.number_of_action.ensures) in
    let rights = named c.extend-2.new.self c.extend-3.new.self c.to_le_bytes-3.result (to_le_bytes w32 rule.rights) c.extend-3.ensures (c.to_le_bytes-3.ensures ∙ ap (to_le_bytes w32) c.from.ensures) in
    let base = named c.extend-4.new.self c.extend-5.new.self c.to_le_bytes-4.result (to_le_bytes w64 rule.range.base) c.extend-5.ensures c.to_le_bytes-4.ensures in
    let long = named c.extend-5.new.self c.extend-6.new.self c.to_le_bytes-5.result (to_le_bytes w64 rule.range.length) c.extend-6.ensures c.to_le_bytes-5.ensures in
    let s2 = both c.args.out.now c.extend.new.self c.extend-2.new.self (to_le_bytes w16 (kind_number rule.kind)) (to_le_bytes w16 (action_number rule.allow)) kind action in
    let s3 = both c.args.out.now c.extend-2.new.self c.extend-3.new.self (to_le_bytes w16 (kind_number rule.kind) ++ to_le_bytes w16 (action_number rule.allow)) (to_le_bytes w32 rule.rights) s2 rights in
    let s4 = both c.args.out.now c.extend-3.new.self c.extend-4.new.self (to_le_bytes w16 (kind_number rule.kind) ++ to_le_bytes w16 (action_number rule.allow) ++ to_le_bytes w32 rule.rights) (rule.owner.0) s3 c.extend-4.ensures in
    let s5 = both c.args.out.now c.extend-4.new.self c.extend-5.new.self (to_le_bytes w16 (kind_number rule.kind) ++ to_le_bytes w16 (action_number rule.allow) ++ to_le_bytes w32 rule.rights ++ rule.owner.0) (to_le_bytes w64 rule.range.base) s4 base in
    let s6 = both c.args.out.now c.extend-5.new.self c.extend-6.new.self (to_le_bytes w16 (kind_number rule.kind) ++ to_le_bytes w16 (action_number rule.allow) ++ to_le_bytes w32 rule.rights ++ rule.owner.0 ++ to_le_bytes w64 rule.range.base) (to_le_bytes w64 rule.range.length) s5 long in
    s6
