pub mod Mentioned
pub mod Bare
pub mod Twice
