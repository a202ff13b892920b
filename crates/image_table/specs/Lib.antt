pub mod HomeRanges
pub mod ImageTable
pub mod Laws
pub mod Sections
pub mod TestImages
