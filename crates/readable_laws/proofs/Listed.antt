-- The conditions of a program within the limits can be read back, where its walks meet readable terms.
use Rattle.std.proofs.Common.{◌≡◌, ℕ, suc, ◌+◌, ◌<◌, ◌≤◌, ◌^◌, true, List, [], ◌∷◌, ◌++◌, length, Some, slice_get, refl, ap, arith}
use Rattle.std.specs.List.{AllByRecursion}
use Rattle.std.proofs.lemmas.List.{length-append}
use Rattle.formula.specs.declared.definition.Heading.{Heading}
use Rattle.formula.specs.ReadableTerms.{IsReadableTerm}
use Rattle.formula.specs.Atoms.{is_name}
use Rattle.formula.specs.Tree.{Tree}
use Rattle.fort_syntax.specs.Conditions.{ConditionTree}
use Rattle.fort_syntax.specs.declared.name.Name.{Name}
use Rattle.fort_syntax.specs.declared.unit.Unit.{Unit as Routine}
use Rattle.fort_model.specs.Conditions.{sight, checks_of, conditions_from, conditions_along, conditions_of_units, conditions_of, are_all_paths, AreAllPaths}
use Rattle.fort_model.specs.Events.{Event, Check, Take, labels}
use Rattle.fort_model.specs.Lists.{IsAmong}
use Rattle.fort_model.specs.Paths.{Path, IsPath}
use Rattle.fort_model.specs.Program.{Program, notes_of}
use Rattle.fort_model.specs.Senses.{of_terms, of_nothing}
use Rattle.fort_model.specs.Walk.{walk}
use Rattle.fort_laws.proofs.BothSenses.{Pairwise, Correspond, EventsAlike}
use Rattle.fort_laws.proofs.BothWalks.{walks_alike}
use Rattle.event_text.specs.Readable.{IsReadableCondition}
use Rattle.path_sizes.specs.Limits.{Sizes, nothing, with_path, with_paths, with_units, FewPaths, FewConditions, IsWithinLimits}
use Rattle.note_laws.proofs.Small.{all_append, all_of}
use Rattle.readable_laws.proofs.Fine.{Each, EventsFine, checks_in, each_append}
use Rattle.readable_laws.proofs.Right.{IsProgramRight}
use Rattle.readable_laws.proofs.Walks.{Begins, walk_fine, walk_begins}

-- ---- how many checks a walk has

abbrev Whatever : Tree → Unit {0} → Type 0
Whatever v w = Unit {0}

with_nothing : Correspond Whatever of_terms of_nothing
with_nothing = record { number = λ z. tt; truth_value = λ b. tt; make = λ g xs ys h. tt; told = λ now now' entry entry' h k t. tt; least = tt; greatest = tt; entries = λ x. tt }

as_many : (es : List (Event Tree)) (fs : List (Event (Unit {0}))) → Pairwise (EventsAlike Whatever) es fs → checks_in es ≡ length (labels fs)
as_many [] [] h = refl
as_many [] (f ∷ fs) h = absurd h
as_many (e ∷ es) [] h = absurd h
as_many (Check kind card v ∷ es) (Check kind' card' w ∷ fs) h = ap suc (as_many es fs h.1)
as_many (Check kind card v ∷ es) (Take w ∷ fs) h = absurd h.0
as_many (Take v ∷ es) (Check kind card w ∷ fs) h = absurd h.0
as_many (Take v ∷ es) (Take w ∷ fs) h = as_many es fs h.1

pub walk_checks : (p : Program) (i : ℕ) (u : Routine) (path : Path) → checks_in (walk (sight of_terms p i u) path) ≡ length (checks_of p i u path)
walk_checks p i u path = as_many _ _ (walks_alike Whatever of_terms of_nothing with_nothing p i u (λ x. tt) path)

-- ---- the conditions of one walk

counted : (unit : Name) (n k : ℕ) (hyps : List Tree) (es : List (Event Tree)) → length (conditions_from unit n k hyps es) ≡ checks_in es
counted unit n k hyps [] = refl
counted unit n k hyps (Check kind card t ∷ es) = ap suc (counted unit n (suc k) (hyps ++ t ∷ []) es)
counted unit n k hyps (Take t ∷ es) = counted unit n k (hyps ++ t ∷ []) es

longer : (hyps : List Tree) (t : Tree) → 0 < length (hyps ++ t ∷ [])
longer hyps t = let e = length-append hyps (t ∷ []) in omega arith

module _ (hs : List Heading) where
  abbrev AreRead : List ConditionTree → Type 0
  AreRead cs = AllByRecursion (IsReadableCondition hs) cs

  module _ (unit : Name) (named : is_name unit ≡ true) (n : ℕ) (few : n < 2 ^ 32) where
    behind_some : (es : List (Event Tree)) (k : ℕ) (hyps : List Tree) → k + checks_in es < 2 ^ 32 → 0 < length hyps → Each hs hyps → EventsFine hs es → AreRead (conditions_from unit n k hyps es)
    behind_some [] k hyps lt some h fine = tt
    behind_some (Check kind card t ∷ es) k hyps lt some h fine = (
      record { unit = named; path = few; check = omega arith; card = fine.0.0; some = some; hyps = all_of (IsReadableTerm hs) hyps h; goal = fine.0.1 },
      behind_some es (suc k) (hyps ++ t ∷ []) (omega arith) (longer hyps t) (each_append hs hyps (t ∷ []) h (fine.0.1, tt)) fine.1,
    )
    behind_some (Take t ∷ es) k hyps lt some h fine = behind_some es k (hyps ++ t ∷ []) lt (longer hyps t) (each_append hs hyps (t ∷ []) h (fine.0, tt)) fine.1

  module _ (p : Program) (right : IsProgramRight hs p) where
    module _ (i : ℕ) (u : Routine) (is : slice_get p.units i ≡ Some u) where
      first_read : (n : ℕ) → n < 2 ^ 32 → (es : List (Event Tree)) → Begins hs p right i u is es → checks_in es < 10 ^ 9 → EventsFine hs es → AreRead (conditions_from u.name n 1 [] es)
      first_read n few [] b lt fine = tt
      first_read n few (Check kind card t ∷ es) b lt fine = absurd b
      first_read n few (Take t ∷ es) b lt fine = behind_some u.name (right.units i u is).name n few es 1 ([] ++ t ∷ []) (omega arith) (longer [] t) (fine.0, tt) fine.1

      path_read : (n : ℕ) → n < 2 ^ 32 → (path : Path) → IsPath p.dialect u (notes_of p i) path → length (checks_of p i u path) ≤ 100000
          → AreRead (conditions_from u.name n 1 [] (walk (sight of_terms p i u) path))
      path_read n few path is_path most =
          let same = walk_checks p i u path in
          first_read n few (walk (sight of_terms p i u) path) (walk_begins hs p right i u is path) (omega arith) (walk_fine hs p right i u is path is_path (omega arith))

      -- ---- the conditions of a unit

      more_paths : (paths : List Path) (s : Sizes) → s.paths ≤ (with_paths p i u s paths).paths
      more_paths [] s = omega arith
      more_paths (path ∷ paths) s = let h = more_paths paths (with_path p i u s path) in omega arith

      more_conditions : (paths : List Path) (s : Sizes) → s.conditions ≤ (with_paths p i u s paths).conditions
      more_conditions [] s = omega arith
      more_conditions (path ∷ paths) s = let h = more_conditions paths (with_path p i u s path) in omega arith

      along_read : (paths : List Path) (s : Sizes) (n : ℕ) → n ≤ suc s.paths → ((path : Path) → IsAmong path paths → IsPath p.dialect u (notes_of p i) path)
          → FewPaths (with_paths p i u s paths) → FewConditions (with_paths p i u s paths) → AreRead (conditions_along p i u n paths)
      along_read [] s n le are few most = tt
      along_read (path ∷ paths) s n le are few most =
          let a = more_paths paths (with_path p i u s path) in
          let b = more_conditions paths (with_path p i u s path) in
          all_append (IsReadableCondition hs) (conditions_from u.name n 1 [] (walk (sight of_terms p i u) path)) _
          (path_read n (omega arith) path (are path (0, refl)) (omega arith))
          (along_read paths (with_path p i u s path) (suc n) (omega arith) (λ q m. are q (suc m.0, m.1)) few most)

    along_count : (i : ℕ) (u : Routine) (paths : List Path) (s : Sizes) (n : ℕ) → s.conditions + length (conditions_along p i u n paths) ≡ (with_paths p i u s paths).conditions
    along_count i u [] s n = omega arith
    along_count i u (path ∷ paths) s n =
        let one = counted u.name n 1 [] (walk (sight of_terms p i u) path) in
        let same = walk_checks p i u path in
        let both = length-append (conditions_from u.name n 1 [] (walk (sight of_terms p i u) path)) (conditions_along p i u (suc n) paths) in
        let rest = along_count i u paths (with_path p i u s path) (suc n) in
        omega arith

    -- ---- the conditions of units

    above_paths : (us : List Routine) (pss : List (List Path)) (i : ℕ) (s : Sizes) → s.paths ≤ (with_units p i s us pss).paths
    above_paths [] pss i s = omega arith
    above_paths (u ∷ us) [] i s = omega arith
    above_paths (u ∷ us) (paths ∷ rest) i s = let a = paths_more i u paths s in let b = above_paths us rest (suc i) (with_paths p i u s paths) in omega arith
      where
        paths_more : (i : ℕ) (u : Routine) (paths : List Path) (s : Sizes) → s.paths ≤ (with_paths p i u s paths).paths
        paths_more i u [] s = omega arith
        paths_more i u (path ∷ paths) s = let h = paths_more i u paths (with_path p i u s path) in omega arith

    units_count : (us : List Routine) (pss : List (List Path)) (i : ℕ) (s : Sizes) → s.conditions + length (conditions_of_units p i us pss) ≡ (with_units p i s us pss).conditions
    units_count [] pss i s = omega arith
    units_count (u ∷ us) [] i s = omega arith
    units_count (u ∷ us) (paths ∷ rest) i s =
        let a = along_count i u paths s 1 in
        let b = units_count us rest (suc i) (with_paths p i u s paths) in
        let both = length-append (conditions_along p i u 1 paths) (conditions_of_units p (suc i) us rest) in
        omega arith

    units_read : (us : List Routine) (pss : List (List Path)) (i : ℕ) (s : Sizes) → ((k j : ℕ) → j ≡ i + k → slice_get p.units j ≡ slice_get us k) → are_all_paths p i us pss
        → FewPaths (with_units p i s us pss) → FewConditions (with_units p i s us pss) → AreRead (conditions_of_units p i us pss)
    units_read [] pss i s at all few most = tt
    units_read (u ∷ us) [] i s at all few most = tt
    units_read (u ∷ us) (paths ∷ rest) i s at all few most =
        let a = above_paths us rest (suc i) (with_paths p i u s paths) in
        let b = units_count us rest (suc i) (with_paths p i u s paths) in
        all_append (IsReadableCondition hs) (conditions_along p i u 1 paths) _
        (along_read i u (at 0 i (omega arith)) paths s 1 (omega arith) (λ path m. (all.0.whole path).1 m) (omega arith) (omega arith))
        (units_read us rest (suc i) (with_paths p i u s paths) (λ k j e. at (suc k) j (omega arith)) all.1 few most)

    pub conditions_read : (pss : List (List Path)) → AreAllPaths p pss → IsWithinLimits p pss → AreRead (conditions_of p pss)
    conditions_read pss all limits = units_read p.units pss 0 nothing (λ k j e. ap (slice_get p.units) (same j k e)) all limits.0 limits.1
      where
        same : (j k : ℕ) → j ≡ 0 + k → j ≡ k
        same j k e = omega arith

    pub conditions_few : (pss : List (List Path)) → IsWithinLimits p pss → length (conditions_of p pss) < 2 ^ 64
    conditions_few pss limits = let a = units_count p.units pss 0 nothing in let b = limits.1 in omega arith
