pub mod Pool
pub mod PoolInside
pub mod PoolLaws
pub mod TreeInside
