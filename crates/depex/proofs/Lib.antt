pub mod WalkLemmas
pub mod SightLemmas
pub mod CourseLemmas
pub mod LawLemmas
pub mod NeedLemmas
pub mod Offered
pub mod WorkLemmas
pub mod EitherLemmas
