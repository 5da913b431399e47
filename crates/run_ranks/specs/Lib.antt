pub mod Needs
pub mod Room
pub mod Laws
pub mod Fitting
pub mod Orders
pub mod Runnable
pub mod Owns
pub mod Raised
