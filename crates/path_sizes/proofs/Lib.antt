pub mod Ascending
pub mod Judged
