pub mod GrownSteps
pub mod Pools
pub mod Twins
