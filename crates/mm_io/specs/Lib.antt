pub mod Causes
pub mod Edges
pub mod Streams
pub mod Memory
