pub mod Fronts
pub mod Letters
pub mod Rests
pub mod Marked
pub mod Texts
pub mod Taken
pub mod Numbers
