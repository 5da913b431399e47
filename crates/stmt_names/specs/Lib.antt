pub mod Usings
