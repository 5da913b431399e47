pub mod Tables
pub mod UnitTables
