pub mod Added
pub mod NotesStated
pub mod KnownTerms
