pub mod Roomy
