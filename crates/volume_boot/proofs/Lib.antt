pub mod BootLemmas
pub mod FewLemmas
pub mod FoundLemmas
pub mod RoundLemmas
pub mod RowLemmas
pub mod StarterLemmas
pub mod WaitingLemmas
