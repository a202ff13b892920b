pub mod Cells
pub mod Laws
pub mod Opening
pub mod OpeningInside
