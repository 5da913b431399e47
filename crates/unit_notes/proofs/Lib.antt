pub mod NotesTold
pub mod Shapes
pub mod Kept
