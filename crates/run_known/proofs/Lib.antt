pub mod Slotted
pub mod Placed
pub mod Named
