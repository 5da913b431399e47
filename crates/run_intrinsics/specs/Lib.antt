pub mod Intrinsics
pub mod Loops
