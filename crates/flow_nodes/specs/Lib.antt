pub mod Nodes
pub mod Cycles
