pub mod Marking
pub mod Ways
pub mod Telling
pub mod Firsts
