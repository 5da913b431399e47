pub mod Dimensions
pub mod Heads
