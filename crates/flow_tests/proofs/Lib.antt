pub mod Extending
pub mod Testing
