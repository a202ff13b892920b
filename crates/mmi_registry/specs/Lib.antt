pub mod ChainLaws
pub mod ChainRule
pub mod Handlers
pub mod Registry
