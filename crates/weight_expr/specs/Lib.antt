pub mod Applied
pub mod Listed
pub mod Parts
