pub mod Booked
pub mod Matched
pub mod Rows
