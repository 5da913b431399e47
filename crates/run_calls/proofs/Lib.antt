pub mod Loops
pub mod Closed
pub mod Given
pub mod Passes
pub mod Called
pub mod Left
pub mod Entered
