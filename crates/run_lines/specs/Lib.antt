pub mod Stated
pub mod Spots
