pub mod CheckLemmas
pub mod GuidLemmas
pub mod ListLemmas
pub mod NumberLemmas
pub mod RangeLemmas
