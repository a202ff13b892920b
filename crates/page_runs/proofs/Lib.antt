pub mod ChangeLemmas
pub mod PartLemmas
pub mod SearchLemmas
