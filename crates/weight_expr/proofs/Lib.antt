mod Arms
mod Powers
pub mod Views
