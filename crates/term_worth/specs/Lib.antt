pub mod Leaves
pub mod Machine
pub mod Ranges
pub mod Sheets
