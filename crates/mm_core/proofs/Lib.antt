pub mod BufferLemmas
pub mod ChainRunLemmas
pub mod CodeLemmas
pub mod EndLemmas
pub mod LawLemmas
pub mod PageLemmas
pub mod ScriptLemmas
pub mod StepLemmas
