pub mod Choices
pub mod Turns
pub mod Parts
