pub mod CellTexts
pub mod LineTexts
pub mod Written
