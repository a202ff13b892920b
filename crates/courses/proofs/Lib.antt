pub mod CheckLemmas
pub mod CourseLemmas
pub mod MeasureLemmas
pub mod VerdictLemmas
