pub mod Jumps
pub mod Rounds
