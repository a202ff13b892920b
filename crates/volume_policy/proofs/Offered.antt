-- What other crates cite: these names stay.
pub use Rattle.volume_policy.proofs.PolicyLemmas.{policy_or_fault, never_both as never_policy_and_fault, one_policy, one_fault as one_policy_fault}
