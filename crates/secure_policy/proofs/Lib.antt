pub mod LawLemmas
pub mod PlaceLemmas
pub mod UnitLemmas
pub mod VerdictLemmas
