pub mod Sooner
pub mod Routing
pub mod Together
