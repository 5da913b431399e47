pub mod Answers
pub mod Parsing
pub mod Statements
pub mod Stems
pub mod Tokens
pub mod Writing
pub mod Wrote
