pub mod Smashed
