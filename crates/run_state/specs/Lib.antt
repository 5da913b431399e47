pub mod Near
pub mod Settings
pub mod Shows
pub mod Rests
pub mod Deeds
pub mod Obeyed
