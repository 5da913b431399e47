pub mod Scans
pub mod BlockScans
