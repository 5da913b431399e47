pub mod ScannedUnits
pub mod ClearedUnits
pub mod ToldCalls
pub mod KnownCallees
pub mod StageTold
