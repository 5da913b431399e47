pub mod Flowing
