pub mod Growing
pub mod Tests
