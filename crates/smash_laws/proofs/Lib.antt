pub mod Tests
pub mod Agreeing
pub mod Growing
pub mod Holding
pub mod TableHolds
