pub mod Ready
pub mod Done
pub mod Units
