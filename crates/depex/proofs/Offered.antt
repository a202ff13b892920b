-- What other crates cite: these names stay.
pub use Rattle.depex.proofs.EitherLemmas.{either as expression_or_fault}
pub use Rattle.depex.proofs.LawLemmas.{never_both as never_expression_and_fault, one_expression, one_fault as one_expression_fault}
