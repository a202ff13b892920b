pub mod MemoryLemmas
pub mod PageLemmas
pub mod PlainLemmas
