pub mod Capped
pub mod Loads
pub mod Laws
