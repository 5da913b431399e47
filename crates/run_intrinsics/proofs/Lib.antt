pub mod Reckoned
pub mod Starts
