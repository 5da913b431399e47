-- The paths of all units of a program, and the conditions of a deck.
use Rattle.std.proofs.Common.{◌≡◌, ℕ, suc, ◌+◌, List, [], ◌∷◌, Some, slice_get, refl, ap, ◌∙◌, arith}
use Rattle.fort_syntax.specs.declared.rule.Rule.TheVariants.{UncutCycle}
use Rattle.fort_syntax.specs.declared.unit.Unit.{Unit as Routine}
use Rattle.fort_model.specs.Conditions.{are_all_paths, conditions_of}
use Rattle.fort_model.specs.Paths.{Edge, Uncut, one, more, Path}
use Rattle.fort_model.specs.Program.{Program, notes_of}
use Rattle.fort_model.specs.Rules.{KeepsRule}
use Rattle.fort_laws.specs.Ways.{IsCutUp}
use Rattle.accepted_laws.specs.Accepted.{IsAcceptedAs}
use Rattle.accepted_laws.proofs.OneProgram.{accepted_are_one}
use Rattle.path_laws.specs.Laws.{AllPathsExist, ConditionsAreOne}
use Rattle.path_laws.proofs.UnitPaths.{paths_exist}

-- no cycle of a unit goes uncut, where rule 31 is kept
cut_up : (p : Program) → KeepsRule p UncutCycle → (i : ℕ) (u : Routine) → slice_get p.units i ≡ Some u → IsCutUp p.dialect u (notes_of p i)
cut_up p keeps i u is pc cycle = by (first cycle) cycle
  where
    first : {a b : ℕ} → Uncut p.dialect u (notes_of p i) a b → (cs : List ℕ) × (q : ℕ) × Edge p.dialect u a cs q
    first (one {q = q} cs c e) = (cs, q, e)
    first (more {q = q} cs c e r) = (cs, q, e)

    by : (cs : List ℕ) × (q : ℕ) × Edge p.dialect u pc cs q → Uncut p.dialect u (notes_of p i) pc pc → ⊥
    by e cycle = keeps i e.2.line.card (record { unit = u; is_unit = is; breaks = record { point = pc; line = e.2.line; at = e.2.at; is_card = refl; cycle = cycle } })

paths_of_units : (p : Program) (i : ℕ) (us : List Routine) → ((k : ℕ) (u : Routine) → slice_get us k ≡ Some u → (j : ℕ) → j ≡ i + k → IsCutUp p.dialect u (notes_of p j))
    → (paths : List (List Path)) × are_all_paths p i us paths
paths_of_units p i [] cut = ([], tt)
paths_of_units p i (u ∷ us) cut =
    let zeroth : i ≡ i + 0 = omega arith in
    let here = paths_exist p.dialect u (notes_of p i) (cut 0 u refl i zeroth) in
    let rest = paths_of_units p (suc i) us (λ k v e j f. cut (suc k) v e j (next i k j f)) in
    (here.0 ∷ rest.0, (here.1, rest.1))
  where
    next : (i k j : ℕ) → j ≡ suc i + k → j ≡ i + suc k
    next i k j f = omega arith

pub all_paths_exist : AllPathsExist
all_paths_exist p keeps = paths_of_units p 0 p.units (λ k u e j f. cut_up p keeps j u (at k j f ∙ e))
  where
    at : (k j : ℕ) → j ≡ 0 + k → slice_get p.units j ≡ slice_get p.units k
    at k j f = let same : j ≡ k = omega arith in ap (slice_get p.units) same

pub conditions_are_one : ConditionsAreOne
conditions_are_one dialect deck r p is keeps =
    let paths = all_paths_exist p (keeps UncutCycle) in
    let a : IsAcceptedAs dialect deck r p paths.0 = record { is_program = is; kept = keeps; all_paths = paths.1 } in (
      conditions_of p paths.0,
      (r, p, paths.0, a, refl),
      λ other h. h.4 ∙ (accepted_are_one dialect deck h.0 r h.1 p h.2 paths.0 h.3 a).3,
    )
