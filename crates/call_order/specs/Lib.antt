pub mod CallGraphs
pub mod Orderings
