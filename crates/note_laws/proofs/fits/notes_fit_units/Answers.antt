use Rattle.note_laws.proofs.NotesFit.{notes_fit_units as law}
use Rattle.note_laws.proofs.fits.notes_fit_units.Goals as goal

pub returns : goal.returns
returns c = law
