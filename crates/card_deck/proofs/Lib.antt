pub mod Blanks
pub mod Filled
pub mod Last
pub mod LeastFault
pub mod Parts
pub mod Steps
