pub mod Chained
pub mod Numbered
pub mod Referred
