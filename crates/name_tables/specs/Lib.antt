pub mod Keys
pub mod Sets
pub mod Labels
pub mod Tables
