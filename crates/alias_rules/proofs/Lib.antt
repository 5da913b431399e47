pub mod FromTables
