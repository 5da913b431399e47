pub mod PathsOf
pub mod Laws
