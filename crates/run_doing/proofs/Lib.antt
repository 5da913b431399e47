pub mod Each
pub mod Found
pub mod Descending
pub mod Tabled
pub mod Told
