pub mod Forms
pub mod Hosts
pub mod Laws
pub mod Starts
pub mod StartsInside
