-- The code of units, one behind the other.
use Rattle.std.proofs.Common.{◌≡◌, ℕ, zero, suc, ◌+◌, List, [], ◌∷◌, ◌++◌, length, Some, slice_get, refl, sym, ap, ◌∙◌, subst}
use Rattle.std.proofs.lemmas.List.{length-append}
use Rattle.fort_syntax.specs.WellFormed.{AreWellFormedUnits, IsWellFormedUnit}
use Rattle.fort_syntax.specs.declared.dialect.Dialect.{Dialect}
use Rattle.fort_syntax.specs.declared.name.Name.{Name}
use Rattle.fort_syntax.specs.declared.unit.Unit.{Unit as Routine}
use Rattle.run_shapes.specs.Coded.{IsUnitCodeOf}
use Rattle.run_shapes.specs.declared.unit_code.UnitCode.{UnitCode}
use Rattle.run_units.specs.Coding.{AreUnitsTo}

pub well_at : (dialect : Dialect) (units : List Routine) (i : ℕ) (u : Routine) → AreWellFormedUnits dialect units → slice_get units i ≡ Some u → IsWellFormedUnit dialect u
well_at dialect [] i u w e = absurd (cc)
well_at dialect (v ∷ units) zero u w e = let same : v ≡ u = cc in subst (IsWellFormedUnit dialect) same w.0
well_at dialect (v ∷ units) (suc i) u w e = well_at dialect units i u w.1 e

pub none_yet : (units : List Routine) (common : List Name) (codes : List UnitCode) → codes ≡ [] → AreUnitsTo units common 0 codes
none_yet units common codes e =
    subst (AreUnitsTo units common 0) (sym e) (record { long = refl; each = λ i u unit f g. absurd (cc) })

-- what stands in a list with one more
data Last {X : Type 0} (xs : List X) (y : X) (i : ℕ) (x : X) : Type 0 where
  before : slice_get xs i ≡ Some x → Last xs y i x
  behind : i ≡ length xs → y ≡ x → Last xs y i x

later : {X : Type 0} (z : X) (xs : List X) (y : X) (i : ℕ) (x : X) → Last xs y i x → Last (z ∷ xs) y (suc i) x
later z xs y i x (before e) = before e
later z xs y i x (behind e f) = behind (ap suc e) f

last : {X : Type 0} (xs : List X) (y : X) (i : ℕ) (x : X) → slice_get (xs ++ y ∷ []) i ≡ Some x → Last xs y i x
last [] y zero x e = behind refl (cc)
last [] y (suc i) x e = absurd (cc)
last (z ∷ xs) y zero x e = before e
last (z ∷ xs) y (suc i) x e = later z xs y i x (last xs y i x e)

pub one_more : (units : List Routine) (common : List Name) (n : ℕ) (u : Routine) (codes new : List UnitCode) (code : UnitCode) → AreUnitsTo units common n codes
    → slice_get units n ≡ Some u → IsUnitCodeOf units common u code → new ≡ codes ++ code ∷ [] → AreUnitsTo units common (n + 1) new
one_more units common n u codes new code h there is e =
    subst (AreUnitsTo units common (n + 1)) (sym e)
    (record {
      long = length-append codes (code ∷ []) ∙ ap (λ m. m + 1) h.long;
      each = λ i v unit f g. by i v unit f (last codes code i unit g);
    })
  where
    by : (i : ℕ) (v : Routine) (unit : UnitCode) → slice_get units i ≡ Some v → Last codes code i unit → IsUnitCodeOf units common v unit
    by i v unit f (before g) = h.each i v unit f g
    by i v unit f (behind g same) =
        let place : i ≡ n = g ∙ h.long in
        let both : Some u ≡ Some v = sym there ∙ ap (slice_get units) (sym place) ∙ f in
        let unit_is : u ≡ v = cc in
        subst (λ z. IsUnitCodeOf units common v z) same (subst (λ z. IsUnitCodeOf units common z code) unit_is is)
