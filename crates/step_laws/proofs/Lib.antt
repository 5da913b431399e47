pub mod Tied
pub mod TiedParts
pub mod TiedRuns
pub mod Unfolding
