pub mod Slots
pub mod Meant
pub mod Rows
pub mod Composed
