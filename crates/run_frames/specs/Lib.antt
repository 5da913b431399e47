pub mod Frames
pub mod Configs
