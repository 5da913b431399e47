pub mod Entered
pub mod Frames
pub mod GoodShapes
