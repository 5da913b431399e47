pub mod Conditions
pub mod Depths
pub mod EventText
pub mod Laws
pub mod Readable
pub mod Rests
pub mod Sending
pub mod TermText
