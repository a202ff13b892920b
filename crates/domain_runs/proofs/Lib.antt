pub mod CallLemmas
pub mod KeptLemmas
pub mod RunLemmas
