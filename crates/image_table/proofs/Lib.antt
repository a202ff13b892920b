pub mod HomeLemmas
pub mod LawLemmas
pub mod SectionLemmas
pub mod TableLemmas
pub mod TestLemmas
