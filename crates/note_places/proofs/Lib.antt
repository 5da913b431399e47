pub mod Lacking
pub mod Marks
pub mod Sets
