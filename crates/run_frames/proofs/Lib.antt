pub mod Lowest
pub mod Worked
pub mod Stepped
pub mod Ends
pub mod Began
