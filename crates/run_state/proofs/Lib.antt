pub mod Nearly
pub mod Items
pub mod Pieces
pub mod Slots
pub mod Arms
pub mod Glue
pub mod Weights
pub mod Stages
