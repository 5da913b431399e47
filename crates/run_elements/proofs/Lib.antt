mod Counts
mod Depths
pub mod Obeying
pub mod Plain
