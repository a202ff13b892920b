pub mod Bytes
pub mod Spelling
pub mod Lawful
pub mod Reading
pub mod Laws
pub mod Decoding
pub mod ReadingInside
pub mod WritingInside
