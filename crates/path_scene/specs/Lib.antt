pub mod Scenes
pub mod Graphs
pub mod Laws
