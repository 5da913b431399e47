pub mod Ending
pub mod Covered
pub mod LeastClock
pub mod Joined
pub mod Rangeless
pub mod Carried
