pub mod Made
pub mod Lined
pub mod Making
pub mod Laws
