pub mod Silent
pub mod Moved
