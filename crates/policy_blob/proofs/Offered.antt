-- What other crates cite: these names stay.
pub use Rattle.policy_blob.proofs.LawLemmas.{policy_or_fault, never_both, one_policy, one_fault}
