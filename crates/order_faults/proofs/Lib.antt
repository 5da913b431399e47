pub mod Splits
pub mod OrderScans
pub mod BlockFaults
