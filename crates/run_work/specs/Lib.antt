pub mod AtOnce
pub mod Obeying
pub mod Ways
