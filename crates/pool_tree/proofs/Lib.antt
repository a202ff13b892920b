pub mod ArenaLemmas
pub mod BlockLemmas
pub mod PartLemmas
pub mod SizeLemmas
pub mod StepLemmas
pub mod TreeLemmas
