mod Cells
pub mod Led
pub mod Plain
pub mod Reached
pub mod Taken
