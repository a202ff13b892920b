pub mod ChainLemmas
pub mod FilterLemmas
pub mod NumberLemmas
pub mod RegistryLemmas
pub mod RoomLemmas
