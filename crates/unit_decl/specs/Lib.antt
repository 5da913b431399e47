pub mod Heads
pub mod UnitParts
