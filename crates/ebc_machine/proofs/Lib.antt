pub mod CarryLemmas
pub mod KeepLemmas
pub mod FuelLemmas
pub mod ShortLemmas
pub mod InvokeLemmas
pub mod StepLemmas
pub mod EnterLemmas
pub mod FlatLemmas
