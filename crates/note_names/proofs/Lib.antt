pub mod CountedClocks
pub mod RoleTables
pub mod Sizes
pub mod StepTerms
pub mod Tests
