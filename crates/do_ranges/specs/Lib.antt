pub mod Ends
pub mod Known
pub mod Clocks
pub mod Stage
pub mod Begun
