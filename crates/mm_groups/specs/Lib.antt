pub mod ChainLaws
pub mod Closed
pub mod EntryLaws
pub mod FlagsInside
pub mod Share
