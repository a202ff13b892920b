pub mod Laws
pub mod Places
pub mod TestHomes
pub mod Verdicts
