pub mod Stepping
pub mod Falls
pub mod Ranks
