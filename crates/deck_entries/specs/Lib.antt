pub mod Decks
pub mod Readings
pub mod Laws
