pub mod Inside
pub mod Programs
pub mod Subjects
pub mod Operands
pub mod Seen
pub mod Calls
