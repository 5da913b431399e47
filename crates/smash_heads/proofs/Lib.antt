pub mod Dimensioned
