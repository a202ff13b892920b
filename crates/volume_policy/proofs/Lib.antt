pub mod Offered
pub mod PolicyLemmas
