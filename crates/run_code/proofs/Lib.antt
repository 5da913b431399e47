pub mod Coded
pub mod Stated
pub mod Before
pub mod Long
