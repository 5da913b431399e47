pub mod Calls
pub mod Judged
pub mod Findings
pub mod Stages
