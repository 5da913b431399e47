pub mod Started
pub mod StartLaws
