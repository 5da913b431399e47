pub mod Verdicts
pub mod Tries
pub mod Lemmas
