pub mod Parts
pub mod PlainForms
