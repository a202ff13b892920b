use Rattle.std.proofs.Common.{length, ap, ◌∙◌, ◌++◌}
use Rattle.std.specs.Int.{to_le_bytes, w16, w32}
use Rattle.policy_blob.specs.Spelling.{signature}
use Rattle.policy_blob.proofs.PutLemmas.{both, named}
use Rattle.policy_blob.proofs.writing.put_header.Goals as goal

pub returns : goal.returns
returns c =
    let policy = c.args.policy.now in
    let version = named c.extend.new.self c.extend-2.new.self c.to_le_bytes.result (to_le_bytes w16 1) c.extend-2.ensures c.to_le_bytes.ensures in
    let reserved = named c.extend-2.new.self c.extend-3.new.self c.to_le_bytes-2.result (to_le_bytes w16 0) c.extend-3.ensures c.to_le_bytes-2.ensures in
    let count = named c.extend-3.new.self c.extend-4.new.self c.to_le_bytes-3.result (to_le_bytes w32 (length policy.rules)) c.extend-4.ensures (c.to_le_bytes-3.ensures ∙ ap (to_le_bytes w32) c.len-count.ensures) in
    let fuel = named c.extend-4.new.self c.extend-5.new.self c.to_le_bytes-4.result (to_le_bytes w32 policy.fuel) c.extend-5.ensures c.to_le_bytes-4.ensures in
    let s2 = both c.args.out.now c.extend.new.self c.extend-2.new.self (signature) (to_le_bytes w16 1) c.extend.ensures version in
    let s3 = both c.args.out.now c.extend-2.new.self c.extend-3.new.self (signature ++ to_le_bytes w16 1) (to_le_bytes w16 0) s2 reserved in
    let s4 = both c.args.out.now c.extend-3.new.self c.extend-4.new.self (signature ++ to_le_bytes w16 1 ++ to_le_bytes w16 0) (to_le_bytes w32 (length policy.rules)) s3 count in
    let s5 = both c.args.out.now c.extend-4.new.self c.extend-5.new.self (signature ++ to_le_bytes w16 1 ++ to_le_bytes w16 0 ++ to_le_bytes w32 (length policy.rules)) (to_le_bytes w32 policy.fuel) s4 fuel in
    s5
