pub mod Faults
pub mod Laws
pub mod ReadingInside
pub mod Spelling
