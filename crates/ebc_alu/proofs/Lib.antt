pub mod IndexLemmas
pub mod LawLemmas
pub mod QuotientLemmas
pub mod ReadingLemmas
pub mod ShiftLemmas
pub mod SumLemmas
