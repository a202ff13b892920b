pub mod BootLemmas
pub mod DriveLemmas
pub mod OneSourceLemmas
pub mod RunLemmas
pub mod ScriptLemmas
pub mod ServeLemmas
pub mod ShareLemmas
