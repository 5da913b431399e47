pub mod Atoms
pub mod Rounds
