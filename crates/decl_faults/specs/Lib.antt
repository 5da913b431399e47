pub mod NameScans
pub mod Commons
pub mod Facts
pub mod Sizes
