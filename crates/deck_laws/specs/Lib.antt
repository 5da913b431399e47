pub mod Ascent
pub mod Laws
pub mod Spelling
