pub mod Weighed
pub mod Weights
pub mod Limits
pub mod Laws
pub mod WeightRows
