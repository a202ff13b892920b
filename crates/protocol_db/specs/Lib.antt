pub mod CountsInside
pub mod KeysInside
pub mod Laws
pub mod ProtocolDb
pub mod Rows
