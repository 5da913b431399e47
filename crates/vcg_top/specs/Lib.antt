pub mod Marked
pub mod Commands
pub mod Answers
pub mod Found
pub mod Soundness
pub mod Status
