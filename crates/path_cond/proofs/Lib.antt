pub mod Added
pub mod UnitWays
pub mod Few
pub mod Paths
pub mod Seen
pub mod Stepwise
