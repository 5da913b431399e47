pub mod Accepted
pub mod ModelFaults
pub mod Laws
