pub mod Commons
pub mod OfCalls
pub mod Telling
pub mod Scanned
