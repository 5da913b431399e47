-- Where named values stand for cells, and a cell of a name is written, the name's new value stands for its cells.
use Rattle.std.proofs.Common.{◌≡◌, ◌≢◌, ℕ, zero, suc, ◌+◌, ◌<◌, ◌≤◌, Bool, true, false, cond, ◌&&◌, ℤ, pos, List, [], ◌∷◌, length, Some, slice_set, eqb, ◌⊎◌, inl, inr, refl, sym, ap, ◌∙◌, subst, arith, get_or-set_same, get_or-set_other}
use Rattle.std.specs.List.{list_all}
use Rattle.formula.specs.Atoms.{same_bytes}
use Rattle.fort_syntax.specs.Names.{data_name}
use Rattle.formula.specs.declared.value.Cell.{Cell}
use Rattle.formula.specs.declared.value.Cell.TheVariants as cell
use Rattle.formula.specs.declared.value.Value.{Value}
use Rattle.formula.specs.declared.value.Value.TheVariants.{Cells as CellList}
use Rattle.formula.specs.Values.{of_cell}
use Rattle.fort_syntax.specs.declared.name.Name.{Name}
use Rattle.fort_syntax.specs.declared.stmt.Dim.{Dim}
use Rattle.fort_syntax.specs.declared.stmt.Dim.TheVariants.{Fixed, Named as Adjustable}
use Rattle.fort_syntax.specs.declared.unit.DataName.{DataName}
use Rattle.fort_syntax.specs.declared.unit.Unit.{Unit as Routine}
use Rattle.fort_model.specs.Cells.{num}
use Rattle.fort_model.specs.Correct.{held_in}
use Rattle.fort_model.specs.Fits.{is_good_dim, is_positive}
use Rattle.fort_model.specs.Places.{dim_values, stretch}
use Rattle.fort_model.specs.Processor.{Processor}
use Rattle.fort_model.specs.Seen.{Named}
use Rattle.fort_model.specs.Storage.{Storage, Environment, load, store, contents}
use Rattle.fort_model.specs.WalkStmt.{with_name}
use Rattle.fort_laws.specs.GoodStatements.{DimsAreOther, MayBeWritten, DimsAreScalars}
use Rattle.fort_laws.specs.Standing.{MayBe, Standing}
use Rattle.fort_laws.proofs.FrameEnter.{SameOrNot, same, other, same_or_not}
use Rattle.fort_laws.proofs.Near.{known}

-- ---- cells

pub load_store_same : (st : Storage) (i : ℕ) (c : Cell) → i < length st → load (store st i c) i ≡ c
load_store_same st i c h = get_or-set_same st i c cell.Undefined h

pub load_store_other : (st : Storage) (i j : ℕ) (c : Cell) → i ≢ j → load (store st i c) j ≡ load st j
load_store_other st i j c h = get_or-set_other st i j c cell.Undefined (λ e. h (sym e))

contents_same : (st : Storage) (i : ℕ) (c : Cell) (first size : ℕ) → ((k : ℕ) → k < size → i ≢ first + k) → contents (store st i c) first size ≡ contents st first size
contents_same st i c first zero h = refl
contents_same st i c first (suc size) h =
    ap (λ (x : Cell). x ∷ contents (store st i c) (suc first) size) (load_store_other st i first c (λ e. h 0 (omega arith) (omega (arith, e))))
    ∙ ap (λ (xs : List Cell). load st first ∷ xs) (contents_same st i c (suc first) size (λ k l e. h (suc k) (omega arith) (omega (arith, e))))

pub contents_written : (st : Storage) (c : Cell) (first size k : ℕ) → k < size → first + k < length st → contents (store st (first + k) c) first size ≡ slice_set (contents st first size) k c
contents_written st c first zero k h l = absurd (omega arith)
contents_written st c first (suc size) zero h l =
    let same : first + 0 ≡ first = omega arith in
    ap (λ (i : ℕ). load (store st i c) first ∷ contents (store st i c) (suc first) size) same
    ∙ ap (λ (x : Cell). x ∷ contents (store st first c) (suc first) size) (load_store_same st first c (omega arith))
    ∙ ap (λ (xs : List Cell). c ∷ xs) (contents_same st first c (suc first) size (λ k m e. absurd (omega (arith, e))))
contents_written st c first (suc size) (suc k) h l =
    let same : first + suc k ≡ suc first + k = omega arith in
    ap (λ (i : ℕ). load (store st i c) first ∷ contents (store st i c) (suc first) size) same
    ∙ ap (λ (x : Cell). x ∷ contents (store st (suc first + k) c) (suc first) size) (load_store_other st (suc first + k) first c (λ e. absurd (omega (arith, e))))
    ∙ ap (λ (xs : List Cell). load st first ∷ xs) (contents_written st c (suc first) size k (omega arith) (omega arith))

pub equal_or_not : (j k : ℕ) → (j ≡ k) ⊎ (j ≢ k)
equal_or_not j k = known (eqb j k) (λ e. inl (grind arith)) (λ e. inr (grind arith))

-- ---- names

module _ (p : Processor) (u : Routine) (env : Environment) where
  module _ (st : Storage) (now : Named Value) (standing : Standing p u env st now) (dims : (y : Name) (d : DataName) → data_name u y ≡ Some d → DimsAreScalars u env d.dims)
      (x : Name) (dx : DataName) (is : data_name u x ≡ Some dx) (may : MayBeWritten u env x) (k : ℕ) (less : k < (env x).size) (c : Cell) (sort : MayBe p dx.sort c) where
    abbrev after : Storage
    after = store st ((env x).first + k) c

    -- a cell of another name is as it was
    other_cell : (y : Name) (d : DataName) → data_name u y ≡ Some d → same_bytes x y ≡ false → (j : ℕ) → j < (env y).size → load after ((env y).first + j) ≡ load st ((env y).first + j)
    other_cell y d e n j h =
        load_store_other st ((env x).first + k) ((env y).first + j) c
        (λ p. may.apart y d e n ((env x).first + k) (omega arith, omega arith) (omega (arith, p), omega (arith, p)))

    dims_same : (ds : List Dim) → DimsAreOther u env x ds → DimsAreScalars u env ds → dim_values env after ds ≡ dim_values env st ds
    dims_same [] h g = refl
    dims_same (Fixed n ∷ ds) h g = ap (λ (zs : List ℤ). pos n ∷ zs) (dims_same ds h g)
    dims_same (Adjustable z ∷ ds) h g =
        ap (λ (v : Cell). num v ∷ dim_values env after ds) (at_first (other_cell z g.0.0 g.0.1 h.0 0 g.0.2)) ∙ ap (λ (zs : List ℤ). num (load st (env z).first) ∷ zs) (dims_same ds h.1 g.1)
      where
        at_first : load after ((env z).first + 0) ≡ load st ((env z).first + 0) → load after (env z).first ≡ load st (env z).first
        at_first e = let same : (env z).first + 0 ≡ (env z).first = omega arith in sym (ap (load after) same) ∙ e ∙ ap (load st) same

    goods_same : (ds : List Dim) → DimsAreOther u env x ds → DimsAreScalars u env ds → list_all (is_good_dim env after) ds ≡ list_all (is_good_dim env st) ds
    goods_same [] h g = refl
    goods_same (Fixed n ∷ ds) h g = goods_same ds h g
    goods_same (Adjustable z ∷ ds) h g =
        ap (λ (v : Cell). is_positive v && list_all (is_good_dim env after) ds) (at_first (other_cell z g.0.0 g.0.1 h.0 0 g.0.2)) ∙ ap (λ (b : Bool). is_positive (load st (env z).first) && b) (goods_same ds h.1 g.1)
      where
        at_first : load after ((env z).first + 0) ≡ load st ((env z).first + 0) → load after (env z).first ≡ load st (env z).first
        at_first e = let same : (env z).first + 0 ≡ (env z).first = omega arith in sym (ap (load after) same) ∙ e ∙ ap (load st) same

    -- adjustable dimensions are still at least 1
    pub goods_written : ((y : Name) (d : DataName) → data_name u y ≡ Some d → list_all (is_good_dim env st) d.dims ≡ true) → (y : Name) (d : DataName) → data_name u y ≡ Some d → list_all (is_good_dim env after) d.dims ≡ true
    goods_written good y d e = goods_same d.dims (may.no_dim y d e) (dims y d e) ∙ good y d e

    one_cell : (y : Name) (d : DataName) → data_name u y ≡ Some d → d.dims ≡ [] → 1 ≤ (env y).size
    one_cell y d e p = at_least_one (env y).size (standing.sizes y d e ∙ ap (λ (ds : List Dim). stretch (dim_values env st ds)) p)
      where
        at_least_one : (n : ℕ) → pos n ≡ pos 1 → 1 ≤ n
        at_least_one n q = grind arith

    held_same : (ds : List Dim) (y : Name) (d : DataName) → data_name u y ≡ Some d → same_bytes x y ≡ false → d.dims ≡ ds → held_in ds after (env y) ≡ held_in ds st (env y)
    held_same [] y d e n l = ap of_cell (at_first (other_cell y d e n 0 (one_cell y d e l)))
      where
        at_first : load after ((env y).first + 0) ≡ load st ((env y).first + 0) → load after (env y).first ≡ load st (env y).first
        at_first p = let same : (env y).first + 0 ≡ (env y).first = omega arith in sym (ap (load after) same) ∙ p ∙ ap (load st) same
    held_same (b ∷ bs) y d e n l =
        ap CellList (contents_same st ((env x).first + k) c (env y).first (env y).size
        (λ j h p. may.apart y d e n ((env x).first + k) (omega arith, omega arith) (omega (arith, p), omega (arith, p))))

    -- the name's value afterwards
    abbrev pub new_value : Value
    new_value = held_in dx.dims after (env x)

    pub standing_written : k < (env x).size → (env x).first + k < length st → Standing p u env after (with_name now x new_value)
    standing_written _ inside = record { names = names; sizes = sizes; sorts = sorts }
      where
        names : (y : Name) (d : DataName) → data_name u y ≡ Some d → with_name now x new_value y ≡ held_in d.dims after (env y)
        names y d e = by_name (same_or_not x y)
          where
            by_name : SameOrNot x y → with_name now x new_value y ≡ held_in d.dims after (env y)
            by_name (same p t) =
                let one : d ≡ dx = cc in
                ap (λ (b : Bool). cond b new_value (now y)) t ∙ ap (λ (ds : List Dim). held_in ds after (env x)) (sym (ap (λ (z : DataName). z.dims) one)) ∙ ap (λ (z : Name). held_in d.dims after (env z)) p
            by_name (other n t) = ap (λ (b : Bool). cond b new_value (now y)) t ∙ standing.names y d e ∙ sym (held_same d.dims y d e t refl)

        sizes : (y : Name) (d : DataName) → data_name u y ≡ Some d → pos (env y).size ≡ stretch (dim_values env after d.dims)
        sizes y d e = standing.sizes y d e ∙ ap stretch (sym (dims_same d.dims (may.no_dim y d e) (dims y d e)))

        sorts : (y : Name) (d : DataName) → data_name u y ≡ Some d → (j : ℕ) → j < (env y).size → MayBe p d.sort (load after ((env y).first + j))
        sorts y d e j h = by_name (same_or_not x y)
          where
            at_place : (j ≡ k) ⊎ (j ≢ k) → d ≡ dx → x ≡ y → MayBe p d.sort (load after ((env y).first + j))
            at_place (inl q) one same_names =
                subst (λ (z : Name). MayBe p d.sort (load after ((env z).first + j))) same_names
                (subst (λ (i : ℕ). MayBe p d.sort (load after ((env x).first + i))) (sym q)
                (subst (λ (v : Cell). MayBe p d.sort v) (sym (load_store_same st ((env x).first + k) c inside)) (subst (λ (z : DataName). MayBe p z.sort c) (sym one) sort)))
            at_place (inr n) one same_names =
                subst (λ (v : Cell). MayBe p d.sort v)
                (sym (load_store_other st ((env x).first + k) ((env y).first + j) c (λ q. n (let same : (env x).first ≡ (env y).first = ap (λ (z : Name). (env z).first) same_names in omega (arith, q, same)))))
                (standing.sorts y d e j h)

            by_name : SameOrNot x y → MayBe p d.sort (load after ((env y).first + j))
            by_name (same e2 t) = let one : d ≡ dx = cc in at_place (equal_or_not j k) one e2
            by_name (other n t) = subst (λ (v : Cell). MayBe p d.sort v) (sym (other_cell y d e t j h)) (standing.sorts y d e j h)
