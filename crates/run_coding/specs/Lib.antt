pub mod Pushed
pub mod Scopes
pub mod Meanings
