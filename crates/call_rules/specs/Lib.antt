pub mod CallFaults
pub mod Taken
pub mod Scanned
pub mod Cleared
pub mod Stage
