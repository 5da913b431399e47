pub mod Facts
pub mod Passing
