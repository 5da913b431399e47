pub mod UseScans
pub mod Roles
