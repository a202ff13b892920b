pub mod Operands
pub mod Rows
pub mod Told
pub mod Instructions
pub mod Stepping
pub mod Invocation
pub mod Flat
pub mod Laws
