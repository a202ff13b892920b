pub mod Boots
pub mod BootsInside
