pub mod Courses
pub mod FirstCheck
pub mod Verdicts
