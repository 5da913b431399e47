pub mod Assertions
pub mod Parts
pub mod Forms
pub mod Judging
pub mod Remarks
pub mod NoteRows
