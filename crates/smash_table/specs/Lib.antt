pub mod Smashed
pub mod Callers
pub mod Seen
