pub mod Increase
pub mod Laws
pub mod Readable
