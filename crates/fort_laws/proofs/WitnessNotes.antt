-- Notes fit where those of each unit do.
use Rattle.std.proofs.Common.{◌≡◌, length, ap, subst}
use Rattle.fort_model.specs.Fitting.{FitsUnit, HasFittingNotes}
use Rattle.fort_notes.specs.Assertions.{Notes}
use Rattle.fort_model.specs.Program.{Program, notes_of, notes_in}
use Rattle.fort_laws.proofs.WitnessLists.{AtEach, at_each}

pub notes_fit : (p : Program) → length p.notes ≡ length p.units → AtEach p.units (λ i u. FitsUnit u (notes_of p i)) → HasFittingNotes p
notes_fit p count each = record {
  count = count;
  fits = λ i u notes is its. subst (λ (n : Notes). FitsUnit u n) (ap notes_in its) (at_each p.units (λ i u. FitsUnit u (notes_of p i)) each i u is);
}
