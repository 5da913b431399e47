pub mod Spots
pub mod Units
pub mod Cards
pub mod Least
pub mod Heads
