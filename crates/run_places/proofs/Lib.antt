mod Exact
mod Subscripts
pub mod Obeying
pub mod Plain
