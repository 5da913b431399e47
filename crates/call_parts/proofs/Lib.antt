pub mod Meeting
pub mod Noted
pub mod Operated
pub mod Passed
