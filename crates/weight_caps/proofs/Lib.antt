pub mod CappedSums
pub mod LoadParts
