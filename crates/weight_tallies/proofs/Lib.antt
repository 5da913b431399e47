pub mod Capping
pub mod CapCalls
pub mod Weighing
pub mod Along
