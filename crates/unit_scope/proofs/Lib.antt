pub mod Scopings
pub mod SameMembers
