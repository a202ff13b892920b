pub mod ByteLemmas
pub mod OpeningLemmas
pub mod RegisterLemmas
