pub mod Commons
pub mod Parts
pub mod Joined
pub mod Coding
