use Rattle.std.proofs.Common.{◌+◌, ◌≤◌, List, length, All, sym, ap, ◌∙◌, subst}
use Rattle.std.specs.Option.{option_copied}
use Rattle.file_words.specs.Causes.{is_policy_file}
use Rattle.mm_base.specs.declared.volume.File.{File}
use Rattle.volume_policy.proofs.PolicyLemmas.{holds_of_found}
use Rattle.volume_policy.proofs.reading.read_policy_of.Goals as goal

pub policy_in-requires-clause-within : goal.policy_in-requires-clause-within
policy_in-requires-clause-within c =
    let P : File → Type 0 = λ file. file.body_at + file.body ≤ length c.args.bytes.now in
    let Q : List File → Type 0 = λ files. All P files in
    holds_of_found P is_policy_file c.as_slice.result.now (subst Q (sym c.as_slice.ensures) c.requires.within) c.in-Some.file.now
    (sym c.policy_file_of.ensures ∙ ap option_copied c.in-Some.is)
