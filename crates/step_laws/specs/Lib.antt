pub mod Steps
pub mod Unfolded
