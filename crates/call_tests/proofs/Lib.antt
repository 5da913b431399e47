pub mod Rows
pub mod Mentions
pub mod Sets
pub mod Elsewhere
pub mod Dummies
