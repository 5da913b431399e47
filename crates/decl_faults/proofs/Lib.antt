pub mod Among
pub mod CommonFacts
pub mod NameScanned
pub mod NameUnits
pub mod Shapes
