pub mod Scanning
pub mod Places
