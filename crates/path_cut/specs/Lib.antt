pub mod Rooms
pub mod Ways
pub mod Work
pub mod Courses
pub mod Cursor
