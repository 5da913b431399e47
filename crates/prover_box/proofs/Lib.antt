pub mod ClosedGoals
pub mod Standing
pub mod Asked
pub mod Enough
