pub mod Tellings
pub mod Scoping
