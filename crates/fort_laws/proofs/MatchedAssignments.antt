-- Assignments.
use Rattle.std.proofs.Common.{◌≡◌, ℕ, zero, suc, ◌+◌, ◌<◌, ◌≤◌, ℤ, pos, ◌-ℤ◌, List, ◌∷◌, length, Option, Some, refl, sym, ap, ◌∙◌, subst, arith, length-set}
use Rattle.formula.specs.declared.function.BuiltIn.TheVariants as f
use Rattle.formula.specs.declared.value.Cell.{Cell}
use Rattle.formula.specs.declared.value.Cell.TheVariants as cell
use Rattle.formula.specs.declared.value.Value.{Value}
use Rattle.formula.specs.declared.value.Value.TheVariants.{Cells as CellList}
use Rattle.formula.specs.Values as value
use Rattle.formula.specs.Values.{of_cell, as_cell, count}
use Rattle.formula.specs.Worth.{Function}
use Rattle.fort_syntax.specs.declared.name.Name.{Name}
use Rattle.fort_syntax.specs.declared.dialect.Sort.{Sort}
use Rattle.fort_syntax.specs.declared.stmt.Dim.{Dim}
use Rattle.fort_model.specs.Conditions.{sight}
use Rattle.fort_model.specs.Correct.{held_in}
use Rattle.fort_model.specs.Evaluate as run
use Rattle.fort_model.specs.Evaluate.{Scene}
use Rattle.fort_model.specs.Outcome.{give}
use Rattle.fort_model.specs.Passing.{Taken, Cells}
use Rattle.fort_model.specs.Places.{dim_values, place, stretch}
use Rattle.fort_model.specs.Program.{Program}
use Rattle.fort_model.specs.Seen.{Named}
use Rattle.fort_model.specs.Senses as sense
use Rattle.fort_model.specs.Senses.{of_values}
use Rattle.fort_model.specs.Storage.{Storage, Extent, store, contents}
use Rattle.fort_model.specs.Symbols.{Symbol}
use Rattle.fort_model.specs.WalkCalls.{Sight}
use Rattle.fort_model.specs.WalkExpr as walk
use Rattle.fort_model.specs.WalkPlaces as places
use Rattle.fort_model.specs.WalkStmt.{with_name}
use Rattle.fort_laws.specs.GoodStatements.{MayBeWritten, Stood, HasScalarDims}
use Rattle.fort_laws.specs.Matches.{Matches, Same}
use Rattle.fort_laws.specs.Places.{AreWithin}
use Rattle.fort_laws.specs.Standing.{MayBe, Standing}
use Rattle.fort_laws.specs.Typed.{IsArray}
use Rattle.fort_laws.proofs.Matching.{followed, matches_held, matches_made, matches_given}
use Rattle.fort_laws.proofs.MatchedPlaces.{AreOf, AreAsMany, matches_subscripts, place_is}
use Rattle.fort_laws.proofs.MatchedTests.{maybe_is}
use Rattle.fort_laws.proofs.PlaceBounds.{LiesIn, lies_in_array, one_less}
use Rattle.fort_laws.proofs.Written.{standing_written, goods_written, contents_written}

as_cell_of : (c : Cell) → as_cell (of_cell c) ≡ Some c
as_cell_of (cell.Int z) = refl
as_cell_of (cell.Logical b) = refl
as_cell_of cell.Undefined = refl

module _ (fs : List Function) (values : Symbol → Value) (program : Program) (i : ℕ) (s : Scene) (dims : HasScalarDims s.unit s.environment)
    (st : Storage) (now : Named Value) (stood : Stood s.processor s.unit s.environment now st) where
  abbrev w : Sight Value
  w = sight (of_values fs values) program i s.unit

  -- the place of an element in its array, by what a walk and a run make of it
  pub record IsElement (a : Name) (p : Value) (t : Taken) : Type 0 where
    pub before : ℕ
    pub place_is : value.num p ≡ pos (suc before)
    pub less : before < (s.environment a).size
    pub taken_is : t ≡ Cells (record { first = (s.environment a).first + before; size = 1 })

  pub matches_place : (card : ℕ) (q : Sort) (a : Name) (b : Dim) (bs : List Dim) → IsArray s.unit q a (b ∷ bs) → (vs : List Value) (cs : List Cell)
      → AreOf s.processor s.unit s.environment st now stood.standing fs values program i s vs cs → AreAsMany s.processor s.unit s.environment st now stood.standing fs values program i s cs (b ∷ bs)
      → Matches (Same st (IsElement a)) (walk.place_checked w card now (b ∷ bs) vs) (run.element s.environment card (s.environment a) (b ∷ bs) cs) st
  matches_place card q a b bs h vs cs e many =
      matches_made (Same st (λ x t. IsElement a the_place t)) (Same st (IsElement a)) _ _ (λ _. the_place) st
      (matches_held (Same st (λ x t. IsElement a the_place t)) _ (λ x. followed (run.subscripts_in card (run.numbers cs) (dim_values s.environment x (b ∷ bs))) (λ _. give (Cells (taken_at x)))) st
      (matches_given (Same st (λ x y. AreWithin (run.numbers cs) (dim_values s.environment st (b ∷ bs)))) (Same st (λ x t. IsElement a the_place t)) _ _ (λ y. Cells (taken_at st)) st
      (matches_subscripts s.processor s.unit s.environment st now stood.standing fs values program i s card vs cs (b ∷ bs) e many h.dims)
      (λ x y after k. (k.0, is_element k.1))))
      (λ x t after k. k)
    where
      the_place : Value
      the_place = places.place (of_values fs values) now vs (b ∷ bs)

      taken_at : Storage → Extent
      taken_at x = record { first = (s.environment a).first + count (place (run.numbers cs) (dim_values s.environment x (b ∷ bs)) -ℤ pos 1); size = 1 }

      sizes : pos (s.environment a).size ≡ stretch (dim_values s.environment st (b ∷ bs))
      sizes = stood.standing.sizes a h.data_of h.is ∙ ap (λ (ds : List Dim). stretch (dim_values s.environment st ds)) h.dims_are

      is_element : AreWithin (run.numbers cs) (dim_values s.environment st (b ∷ bs)) → IsElement a the_place (Cells (taken_at st))
      is_element within = by_place l.at l.place_is l.low l.high
        where
          l : LiesIn (place (run.numbers cs) (dim_values s.environment st (b ∷ bs))) (stretch (dim_values s.environment st (b ∷ bs)))
          l = lies_in_array (run.numbers cs) (dim_values s.environment st (b ∷ bs)) within

          same_size : (s.environment a).size ≡ l.size
          same_size = ap count (sizes ∙ l.stretch_is)

          by_place : (k : ℕ) → place (run.numbers cs) (dim_values s.environment st (b ∷ bs)) ≡ pos k → 1 ≤ k → k ≤ l.size → IsElement a the_place (Cells (taken_at st))
          by_place zero p g m = absurd (omega arith)
          by_place (suc k) p g m =
              let n : (s.environment a).size ≡ l.size = same_size in
              record {
                before = k;
                place_is = place_is s.processor s.unit s.environment st now stood.standing fs values program i s vs cs (b ∷ bs) e h.dims ∙ p;
                less = omega arith;
                taken_is = ap (λ (z : ℤ). Cells (record { first = (s.environment a).first + count z; size = 1 })) (ap (λ (z : ℤ). z -ℤ pos 1) p ∙ one_less k);
              }

  -- an element is written
  pub element_written : (q : Sort) (a : Name) (b : Dim) (bs : List Dim) → IsArray s.unit q a (b ∷ bs) → MayBeWritten s.unit s.environment a → (p : Value) (t : Taken) → (h : IsElement a p t)
      → (c : Cell) → MayBe s.processor q c → (v : Value) → v ≡ of_cell c
      → Stood s.processor s.unit s.environment (with_name now a (sense.make3 (of_values fs values) f.Put (now a) p v)) (store st ((s.environment a).first + h.before) c)
  element_written q a b bs h may p t e c sort v is = record {
    standing = subst (λ (x : Value). Standing s.processor s.unit s.environment (store st ((s.environment a).first + e.before) c) (with_name now a x)) value_is written;
    good = goods_written s.processor s.unit s.environment st now stood.standing dims a h.data_of h.is may e.before e.less c (maybe_is s.processor s.unit s.environment dims _ _ c h.sort_is sort) stood.good;
    within = λ y d k. let n : length (store st ((s.environment a).first + e.before) c) ≡ length st = length-set st ((s.environment a).first + e.before) c in let m = stood.within y d k in omega arith;
  }
    where
      inside : (s.environment a).first + (s.environment a).size ≤ length st
      inside = stood.within a h.data_of h.is

      written : Standing s.processor s.unit s.environment (store st ((s.environment a).first + e.before) c) (with_name now a (held_in h.data_of.dims (store st ((s.environment a).first + e.before) c) (s.environment a)))
      written =
          standing_written s.processor s.unit s.environment st now stood.standing dims a h.data_of h.is may e.before e.less c (maybe_is s.processor s.unit s.environment dims _ _ c h.sort_is sort) e.less
          (let l = e.less in let m = inside in omega arith)

      value_is : held_in h.data_of.dims (store st ((s.environment a).first + e.before) c) (s.environment a) ≡ value.put (now a) (value.num p) v
      value_is =
          ap (λ (ds : List Dim). held_in ds (store st ((s.environment a).first + e.before) c) (s.environment a)) h.dims_are
          ∙ ap CellList (contents_written st c (s.environment a).first (s.environment a).size e.before e.less (let l = e.less in let m = inside in omega arith))
          ∙ sym (ap (λ (x : Value). value.put x (value.num p) v) (stood.standing.names a h.data_of h.is ∙ ap (λ (ds : List Dim). held_in ds st (s.environment a)) h.dims_are)
          ∙ ap (λ (z : ℤ). value.put (CellList (contents st (s.environment a).first (s.environment a).size)) z v) e.place_is
          ∙ ap (λ (x : Value). CellList (value.put_cell (contents st (s.environment a).first (s.environment a).size) (pos (suc e.before)) (as_cell x))) is
          ∙ ap (λ (o : Option Cell). CellList (value.put_cell (contents st (s.environment a).first (s.environment a).size) (pos (suc e.before)) o)) (as_cell_of c))
