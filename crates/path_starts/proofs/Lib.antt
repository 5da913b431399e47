pub mod Taken
pub mod Begun
