pub mod Typings
pub mod Fittings
pub mod PlainSubscripts
