pub mod Guards
pub mod Hits
pub mod Clear
