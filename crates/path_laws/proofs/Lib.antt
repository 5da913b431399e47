pub mod Pairs
pub mod StmtChoices
pub mod WaysListed
pub mod UnitPaths
pub mod AllPaths
