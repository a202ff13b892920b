pub mod Drivers
pub mod FamiliesInside
pub mod IndexInside
pub mod Laws
pub mod Rounds
pub mod RoundsInside
pub mod TestStarter
