pub mod Shared
pub mod Judged
