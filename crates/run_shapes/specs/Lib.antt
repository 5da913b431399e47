pub mod Seen
pub mod Coded
