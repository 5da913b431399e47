pub mod Passed
pub mod Carried
