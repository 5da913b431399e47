pub mod Sooner
pub mod Breaking
