pub mod Keeping
pub mod Clearing
pub mod Reaching
pub mod Passing
pub mod WithoutDo
