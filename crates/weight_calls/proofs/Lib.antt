mod CalledNames
mod CallSteps
mod HitNames
pub mod NoteTerms
