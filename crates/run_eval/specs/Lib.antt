pub mod Entries
pub mod Performed
