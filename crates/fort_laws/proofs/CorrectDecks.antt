-- Soundness for decks: well-formed decks that keep the rules have all that soundness takes.
use Rattle.std.proofs.Common.{◌≡◌, ℕ, zero, suc, List, [], ◌∷◌, length, Some, slice_get, refl, sym, ap, subst}
use Rattle.fort_syntax.specs.WellFormed.{IsWellFormedUnit, AreWellFormedUnits}
use Rattle.fort_syntax.specs.declared.rule.Rule.TheVariants.{BlockMissing}
use Rattle.fort_syntax.specs.declared.unit.Unit.{Unit as Routine}
use Rattle.fort_model.specs.Fitting.{FitsUnit, HasFittingNotes}
use Rattle.fort_model.specs.Program.{Program, notes_in, notes_of}
use Rattle.fort_laws.specs.GoodDecks.{DecksAreCorrect}
use Rattle.fort_laws.specs.StrictPrograms.{IsReady}
use Rattle.fort_laws.proofs.CorrectPrograms.{programs_are_correct}
use Rattle.fort_laws.proofs.DeclaredCalls.{names_are_held, calls_agree}
use Rattle.fort_laws.proofs.DeclaredDecks.{well_at, well_formed_is_declared}
use Rattle.fort_laws.proofs.DeclaredUnits.{blocks_hold_commons}
use Rattle.fort_laws.proofs.FlowEnds.{ends_are_returns}
use Rattle.fort_laws.proofs.TypedLines.{statements_are_typed}

-- what stands at a place of a list, where something does in one as long
also_at : {A B : Type 0} (xs : List A) (ys : List B) (i : ℕ) (y : B) → length xs ≡ length ys → slice_get ys i ≡ Some y → (x : A) × (slice_get xs i ≡ Some x)
also_at xs [] i y e h = absurd (cc)
also_at [] (z ∷ ys) i y e h = absurd (cc)
also_at (x ∷ xs) (z ∷ ys) zero y e h = (x, refl)
also_at (x ∷ xs) (z ∷ ys) (suc i) y e h = let f : length xs ≡ length ys = cc in also_at xs ys i y f h

notes_fit : (p : Program) → HasFittingNotes p → (i : ℕ) (u : Routine) → slice_get p.units i ≡ Some u → FitsUnit u (notes_of p i)
notes_fit p fitting i u is =
    let n = also_at p.notes p.units i u fitting.count is in
    subst (FitsUnit u) (sym (ap notes_in n.1)) (fitting.fits i u n.0 is n.1)

pub decks_are_correct : DecksAreCorrect
decks_are_correct dialect deck p well units keeps table fitting list exact valid =
    programs_are_correct p keeps table (well_formed_is_declared dialect deck p well units (keeps BlockMissing)) (calls_agree dialect deck p well units keeps) ready list exact valid
  where
    ready : (i : ℕ) (u : Routine) → slice_get p.units i ≡ Some u → IsReady p i u
    ready i u is =
        let w : IsWellFormedUnit dialect u = well_at dialect p.units i u (subst (AreWellFormedUnits dialect) units well.units) is in
        record {
          names = names_are_held dialect u w;
          blocks = blocks_hold_commons dialect u w;
          notes = notes_fit p fitting i u is;
          returns = ends_are_returns dialect p i u is w keeps;
          statements = statements_are_typed dialect p i u is w keeps;
        }
