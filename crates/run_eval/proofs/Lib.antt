pub mod Listed
pub mod Came
