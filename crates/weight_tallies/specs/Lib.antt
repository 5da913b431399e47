pub mod Tallied
pub mod Tallies
pub mod Laws
