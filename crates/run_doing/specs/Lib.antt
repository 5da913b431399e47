pub mod Rounds
pub mod Here
