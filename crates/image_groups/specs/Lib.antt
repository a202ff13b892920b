pub mod ClosedInside
pub mod Ends
pub mod Erasing
pub mod Groups
pub mod Laws
pub mod Reach
pub mod RunLaws
