pub mod Put
pub mod Placed
pub mod Framed
pub mod Told
