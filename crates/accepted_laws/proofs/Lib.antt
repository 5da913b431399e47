pub mod SoundDecks
pub mod OneProgram
pub mod NoFault
