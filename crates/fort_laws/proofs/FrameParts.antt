-- What is kept while a unit is run: its names' cells, and all cells but those of smashed names.
use Rattle.std.proofs.Common.{◌≡◌, ℕ, zero, suc, ◌+◌, ◌*◌, ◌<◌, ◌≤◌, ◌⊎◌, inl, inr, Bool, true, false, cond, ◌&&◌, ℤ, pos, negsuc, ◌+ℤ◌, ◌-ℤ◌, ◌*ℤ◌, List, [], ◌∷◌, length, Some, refl, sym, ap, ◌∙◌, subst, arith, rules, length-set, get_or-set_other}
use Rattle.std.proofs.Math.IntN.{pos-+ℤ-pos, pos-*ℤ-pos}
use Rattle.std.specs.List.{list_all}
use Rattle.std.specs.Prelude.{◌==◌}
use Rattle.formula.specs.Values.{count}
use Rattle.formula.specs.declared.value.Cell.{Cell}
use Rattle.formula.specs.declared.value.Cell.TheVariants.{Int, Logical, Undefined}
use Rattle.fort_syntax.specs.declared.name.Name.{Name}
use Rattle.fort_syntax.specs.declared.stmt.Dim.{Dim}
use Rattle.fort_syntax.specs.declared.stmt.Dim.TheVariants.{Fixed, Named}
use Rattle.fort_syntax.specs.declared.stmt.Stmt.{Stmt}
use Rattle.fort_syntax.specs.declared.stmt.Stmt.TheVariants.{Subroutine, Function, Declare, Dimension, Common as CommonBlock, Assign, GoTo, Computed, ArithIf, LogicalIf', Do, Continue, Call, Return, End, BlockIf, ElseIf, Else, EndIf}
use Rattle.fort_syntax.specs.declared.unit.DataName.{DataName}
use Rattle.fort_syntax.specs.declared.unit.Line.{Line}
use Rattle.fort_syntax.specs.declared.unit.Unit.{Unit as Routine}
use Rattle.fort_model.specs.Cells.{num}
use Rattle.fort_model.specs.Fits.{IsIn, HasShape, is_good_dim, is_positive}
use Rattle.fort_model.specs.Flow.{target, Loop, loop_of, loops_from, loops_at}
use Rattle.fort_model.specs.Lists.{IsAmong}
use Rattle.fort_model.specs.Places.{dim_value, dim_values, stretch, stretch_from, size_of, place, place_from}
use Rattle.fort_model.specs.Smashes.{Smashes, set_by}
use Rattle.fort_model.specs.Storage.{Storage, Extent, Environment, load, store}
use Rattle.fort_laws.specs.Frame.{IsPlaced, IsAdjustable, IsSoundUnit, OthersKept}
use Rattle.fort_laws.proofs.PlaceBounds.{IsIndex, index_of, one_less, step_low, step_high, LiesIn}
use Rattle.fort_laws.proofs.Kept.{AreIn, element_at}

-- ---- places of elements, where all dimensions are at least 1

abbrev pub ArePositive : List ℤ → Type 0
ArePositive [] = Unit {0}
ArePositive (d ∷ ds) = ((m : ℕ) × (d ≡ pos (suc m))) × ArePositive ds

-- a place from 1 on, and a stretch that is not less
stretch_beyond : (p q : ℕ) → 1 ≤ p → p ≤ q → (ds : List ℤ) → ArePositive ds → LiesIn (pos p) (stretch_from (pos q) ds)
stretch_beyond p q low high [] h = record { at = p; size = q; place_is = refl; stretch_is = refl; low = low; high = high }
stretch_beyond p q low high (d ∷ ds) h =
    let rec = stretch_beyond p (q * suc h.0.0) low (grow p q h.0.0 high) ds h.1 in
    let f : pos q *ℤ d ≡ pos (q * suc h.0.0) = ap (λ (z : ℤ). pos q *ℤ z) h.0.1 ∙ pos-*ℤ-pos q (suc h.0.0) in
    subst (λ (w : ℤ). LiesIn (pos p) (stretch_from w ds)) (sym f) rec
  where
    grow : (p q m : ℕ) → p ≤ q → p ≤ q * suc m
    grow p q m h = grind arith

part_on : (p q : ℕ) → 1 ≤ p → p ≤ q → (ss ds : List ℤ) → AreIn ss ds → ArePositive ds → LiesIn (place_from (pos p) (pos q) ss ds) (stretch_from (pos q) ds)
part_on p q low high [] ds h good = stretch_beyond p q low high ds good
part_on p q low high (s ∷ ss) [] h good = stretch_beyond p q low high [] good
part_on p q low high (s ∷ ss) (d ∷ ds) h good =
    let i : IsIndex s d = index_of s d h.0 in
    let rec = part_on (p + q * i.before) (q * i.size) (step_low p q i.before low) (step_high p q i.before i.size high i.less) ss ds h.1 good.1 in
    let e : pos p +ℤ pos q *ℤ (s -ℤ pos 1) ≡ pos (p + q * i.before) =
    ap (λ (z : ℤ). pos p +ℤ pos q *ℤ (z -ℤ pos 1)) i.subscript ∙ ap (λ (z : ℤ). pos p +ℤ pos q *ℤ z) (one_less i.before) ∙ ap (λ (z : ℤ). pos p +ℤ z) (pos-*ℤ-pos q i.before) ∙ pos-+ℤ-pos p (q * i.before) in
    let f : pos q *ℤ d ≡ pos (q * i.size) = ap (λ (z : ℤ). pos q *ℤ z) i.dimension ∙ pos-*ℤ-pos q i.size in
    subst (λ (w : ℤ). LiesIn (place_from (pos p +ℤ pos q *ℤ (s -ℤ pos 1)) w ss ds) (stretch_from w ds)) (sym f)
    (subst (λ (z : ℤ). LiesIn (place_from z (pos (q * i.size)) ss ds) (stretch_from (pos (q * i.size)) ds)) (sym e) rec)

-- the number of elements, and the place of an element
whole : (ds : List ℤ) → ArePositive ds → LiesIn (pos 1) (stretch ds)
whole [] good = record { at = 1; size = 1; place_is = refl; stretch_is = refl; low = omega arith; high = omega arith }
whole (d ∷ ds) good =
    subst (λ (w : ℤ). LiesIn (pos 1) (stretch_from w ds)) (sym good.0.1) (stretch_beyond 1 (suc good.0.0) (omega arith) (omega arith) ds good.1)

part : (ss ds : List ℤ) → AreIn ss ds → ArePositive ds → LiesIn (place ss ds) (stretch ds)
part [] ds h good = whole ds good
part (s ∷ ss) [] h good = whole [] good
part (s ∷ ss) (d ∷ ds) h good =
    let i : IsIndex s d = index_of s d h.0 in
    let rec = part_on (suc i.before) i.size (omega arith) (let l = i.less in omega arith) ss ds h.1 good.1 in
    subst (λ (w : ℤ). LiesIn (place_from s w ss ds) (stretch_from w ds)) (sym i.dimension) (subst (λ (z : ℤ). LiesIn (place_from z (pos i.size) ss ds) (stretch_from (pos i.size) ds)) (sym i.subscript) rec)

pub count_of : (z w : ℤ) (l : LiesIn z w) → suc (count (z -ℤ pos 1)) ≡ l.at
count_of z w l = from l.at l.low l.place_is
  where
    from : (n : ℕ) → 1 ≤ n → z ≡ pos n → suc (count (z -ℤ pos 1)) ≡ n
    from zero low e = absurd (omega arith)
    from (suc n) low e = ap (λ (y : ℤ). suc (count (y -ℤ pos 1))) e ∙ ap (λ (y : ℤ). suc (count y)) (one_less n)

pub same_pos : (m n : ℕ) → pos m ≡ pos n → m ≡ n
same_pos m n e = cc

-- the first cell of an element, and those behind it
pub element_within : (array : Extent) (ss ds : List ℤ) → pos array.size ≡ stretch ds → AreIn ss ds → ArePositive ds
    → (array.first ≤ (element_at array ss ds).first) × ((element_at array ss ds).first + 1 ≤ array.first + array.size)
element_within array ss ds size h good =
    let l = part ss ds h good in
    let a : suc (count (place ss ds -ℤ pos 1)) ≡ l.at = count_of (place ss ds) (stretch ds) l in
    let b : array.size ≡ l.size = same_pos array.size l.size (size ∙ l.stretch_is) in
    let c = l.high in
    (omega arith, omega arith)

pub size_positive : (size : ℕ) (ds : List ℤ) → pos size ≡ stretch ds → ArePositive ds → 1 ≤ size
size_positive size ds e good =
    let l = whole ds good in
    let b : size ≡ l.size = same_pos size l.size (e ∙ l.stretch_is) in
    let c = l.high in let d = l.low in omega arith

-- ---- good dimensions are at least 1

positive_number : (c : Cell) → is_positive c ≡ true → (m : ℕ) × (num c ≡ pos (suc m))
positive_number (Int (pos zero)) h = search rules
positive_number (Int (pos (suc n))) h = (n, refl)
positive_number (Int (negsuc n)) h = search rules
positive_number (Logical b) h = absurd (cc)
positive_number Undefined h = absurd (cc)

one_or_more : (n : ℕ) → 1 ≤ n → (m : ℕ) × (pos n ≡ pos (suc m))
one_or_more zero h = absurd (omega arith)
one_or_more (suc n) h = (n, refl)

good_dim : (env : Environment) (st : Storage) (d : Dim) → ((n : ℕ) → d ≡ Fixed n → 1 ≤ n) → is_good_dim env st d ≡ true → (m : ℕ) × (dim_value env st d ≡ pos (suc m))
good_dim env st (Fixed n) c h = one_or_more n (c n refl)
good_dim env st (Named x) c h = positive_number (load st (env x).first) h

both : (a b : Bool) → (a && b) ≡ true → (a ≡ true) × (b ≡ true)
both true b e = (refl, e)
both false b e = absurd (cc)

pub good_dims : (env : Environment) (st : Storage) (ds : List Dim) → ((n : ℕ) → IsAmong (Fixed n) ds → 1 ≤ n) → list_all (is_good_dim env st) ds ≡ true → ArePositive (dim_values env st ds)
good_dims env st [] c h = tt
good_dims env st (d ∷ ds) c h =
    let t = both (is_good_dim env st d) (list_all (is_good_dim env st) ds) h in
    (good_dim env st d (λ n e. c n (0, ap Some e)) t.0, good_dims env st ds (λ n m. c n (suc m.0, m.1)) t.1)

-- ---- the variables of DOs

loop_more : (t : Bool) (d e : Loop) (around : List Loop) → IsAmong d (cond t (e ∷ around) around) → (IsAmong d around) ⊎ (d ≡ e)
loop_more true d e around (zero, q) = inr (cc)
loop_more true d e around (suc j, q) = inl (j, q)
loop_more false d e around m = inl m

abbrev IsSetBy : Stmt → Loop → Type 0
IsSetBy stmt d = IsAmong d.variable (set_by stmt)

loop_set : (all : List Line) (pc i : ℕ) (stmt : Stmt) (around : List Loop) (d : Loop) → IsAmong d (loop_of all pc i stmt around) → (IsAmong d around) ⊎ IsSetBy stmt d
loop_set all pc i (Do label x first last by) around d m = pick (loop_more (target all label == pc) d _ around m)
  where
    pick : (IsAmong d around) ⊎ (d ≡ record { at = i; variable = x; last = last; step = by }) → (IsAmong d around) ⊎ IsSetBy (Do label x first last by) d
    pick (inl h) = inl h
    pick (inr e) = inr (0, ap (λ (y : Loop). Some y.variable) (sym e))
loop_set all pc i (Assign left right) around d m = inl m
loop_set all pc i (GoTo label) around d m = inl m
loop_set all pc i (Computed labels x) around d m = inl m
loop_set all pc i (ArithIf e l k n) around d m = inl m
loop_set all pc i (LogicalIf' e shape b) around d m = inl m
loop_set all pc i Continue around d m = inl m
loop_set all pc i (Call f args) around d m = inl m
loop_set all pc i Return around d m = inl m
loop_set all pc i (BlockIf e) around d m = inl m
loop_set all pc i (ElseIf e) around d m = inl m
loop_set all pc i Else around d m = inl m
loop_set all pc i EndIf around d m = inl m
loop_set all pc i (Subroutine x xs) around d m = inl m
loop_set all pc i (Function t x xs) around d m = inl m
loop_set all pc i (Declare t items) around d m = inl m
loop_set all pc i (Dimension items) around d m = inl m
loop_set all pc i (CommonBlock groups) around d m = inl m
loop_set all pc i End around d m = inl m

pub record SetsVariable (lines : List Line) (d : Loop) : Type 0 where
  pub line : Line
  pub among : IsAmong line lines
  pub set : IsAmong d.variable (set_by line.stmt)

loop_line : (all : List Line) (pc i : ℕ) (lines : List Line) (around : List Loop) (d : Loop) → IsAmong d (loops_from all pc i lines around) → (IsAmong d around) ⊎ SetsVariable lines d
loop_line all pc i [] around d m = inl m
loop_line all pc i (line ∷ lines) around d m = here (loop_line all pc (suc i) lines (loop_of all pc i line.stmt around) d m)
  where
    mine : (IsAmong d around) ⊎ IsSetBy line.stmt d → (IsAmong d around) ⊎ SetsVariable (line ∷ lines) d
    mine (inl h) = inl h
    mine (inr s) = inr (record { line = line; among = (0, refl); set = s })

    here : (IsAmong d (loop_of all pc i line.stmt around)) ⊎ SetsVariable lines d → (IsAmong d around) ⊎ SetsVariable (line ∷ lines) d
    here (inl h) = mine (loop_set all pc i line.stmt around d h)
    here (inr s) = inr (record { line = s.line; among = (suc s.among.0, s.among.1); set = s.set })

pub loops_set : (u : Routine) (pc : ℕ) (d : Loop) → IsAmong d (loops_at u pc) → SetsVariable u.lines d
loops_set u pc d m = pick (loop_line u.lines pc 0 u.lines [] d m)
  where
    pick : (IsAmong d []) ⊎ SetsVariable u.lines d → SetsVariable u.lines d
    pick (inl h) = absurd (cc)
    pick (inr s) = s

-- ---- the cells of an activation

-- a cell of a data name that the unit smashes
pub record IsOpen (units : List Routine) (i : ℕ) (u : Routine) (env : Environment) (k : ℕ) : Type 0 where
  pub its : DataName
  pub among : IsAmong its u.names
  pub smashed : Smashes units i its.name
  pub cell : IsIn k (env its.name)

-- storage of the same length, or of at least that, in which all cells but some are as before
abbrev pub Framed : (ℕ → Type 0) → Storage → Storage → Type 0
Framed May before after = (length after ≡ length before) × OthersKept May before after

abbrev pub Late : (ℕ → Type 0) → Storage → Storage → Type 0
Late May before after = (length before ≤ length after) × OthersKept May before after

pub framed_late : (May : ℕ → Type 0) (before after : Storage) → Framed May before after → Late May before after
framed_late May before after h = (let l = h.0 in omega arith, h.1)

pub framed_writes : (May : ℕ → Type 0) (before st : Storage) (j : ℕ) (c : Cell) → May j → Framed May before st → Framed May before (store st j c)
framed_writes May before st j c may h =
    (length-set st j c ∙ h.0, λ k lt not. get_or-set_other st j k c Undefined (λ e. not (subst May (sym e) may)) ∙ h.1 k lt not)

-- ---- shapes while the unit is run: no dimension is changed

all_good : (env : Environment) (st after : Storage) (ds : List Dim) → ((d : Dim) → IsAmong d ds → is_good_dim env after d ≡ is_good_dim env st d)
    → list_all (is_good_dim env st) ds ≡ true → list_all (is_good_dim env after) ds ≡ true
all_good env st after [] same h = refl
all_good env st after (d ∷ ds) same h =
    let t = both (is_good_dim env st d) (list_all (is_good_dim env st) ds) h in
    ap (λ (b : Bool). b && list_all (is_good_dim env after) ds) (same d (0, refl) ∙ t.0) ∙ all_good env st after ds (λ e m. same e (suc m.0, m.1)) t.1

same_values : (env : Environment) (st after : Storage) (ds : List Dim) → ((d : Dim) → IsAmong d ds → dim_value env after d ≡ dim_value env st d) → dim_values env after ds ≡ dim_values env st ds
same_values env st after [] same = refl
same_values env st after (d ∷ ds) same =
    ap (λ (z : ℤ). z ∷ dim_values env after ds) (same d (0, refl)) ∙ ap (λ (zs : List ℤ). dim_value env st d ∷ zs) (same_values env st after ds (λ e m. same e (suc m.0, m.1)))

module _ (units : List Routine) (i : ℕ) (u : Routine) (sound : IsSoundUnit units i u) (env : Environment) (st : Storage) (placed : IsPlaced units i u env st) where
  pub positive : (d : DataName) → IsAmong d u.names → ArePositive (dim_values env st d.dims)
  positive d m = good_dims env st d.dims (λ n k. sound.constants d n m k) (placed.shapes d m).dims

  pub one_cell : (d : DataName) → IsAmong d u.names → 1 ≤ (env d.name).size
  one_cell d m = size_positive (env d.name).size (dim_values env st d.dims) (placed.shapes d m).size (positive d m)

  pub first_in : (d : DataName) → IsAmong d u.names → IsIn (env d.name).first (env d.name)
  first_in d m = (omega arith, let s = one_cell d m in omega arith)

  -- the cell of an adjustable dimension is that of no smashed name
  pub not_open : (d : DataName) (x : Name) → IsAmong d u.names → IsAmong (Named x) d.dims → IsOpen units i u env (env x).first → ⊥
  not_open d x m k o =
      let a : IsAdjustable units i u d x = sound.adjustables d x m k in
      let e : a.has.its.name ≡ x = a.has.name in
      placed.apart o.its a.has.its o.among a.has.among o.smashed (λ same. a.not_smashed (subst (λ (z : Name). Smashes units i z) (same ∙ e) o.smashed)) (env x).first o.cell
      (subst (λ (z : Name). IsIn (env z).first (env z) → IsIn (env x).first (env a.has.its.name)) refl (λ h. subst (λ (z : Name). IsIn (env z).first (env a.has.its.name)) e h) (first_in a.has.its a.has.among))

  adjustable_within : (d : DataName) (x : Name) → IsAmong d u.names → IsAmong (Named x) d.dims → (env x).first < length st
  adjustable_within d x m k =
      let a : IsAdjustable units i u d x = sound.adjustables d x m k in
      subst (λ (z : Name). (env z).first < length st) a.has.name (let s = one_cell a.has.its a.has.among in let w = (placed.shapes a.has.its a.has.among).within in omega arith)

  module _ (after : Storage) (framed : Framed (IsOpen units i u env) st after) where
    same_load : (d : DataName) (x : Name) → IsAmong d u.names → IsAmong (Named x) d.dims → load after (env x).first ≡ load st (env x).first
    same_load d x m k = framed.1 (env x).first (adjustable_within d x m k) (not_open d x m k)

    same_dim : (d : DataName) → IsAmong d u.names → (dim : Dim) → IsAmong dim d.dims → dim_value env after dim ≡ dim_value env st dim
    same_dim d m (Fixed n) k = refl
    same_dim d m (Named x) k = ap num (same_load d x m k)

    same_good : (d : DataName) → IsAmong d u.names → (dim : Dim) → IsAmong dim d.dims → is_good_dim env after dim ≡ is_good_dim env st dim
    same_good d m (Fixed n) k = refl
    same_good d m (Named x) k = ap is_positive (same_load d x m k)

    pub still_shaped : (d : DataName) → IsAmong d u.names → HasShape env after d
    still_shaped d m =
        let s : HasShape env st d = placed.shapes d m in
        record {
          within = let l = framed.0 in let w = s.within in omega arith;
          size = s.size ∙ ap stretch (sym (same_values env st after d.dims (same_dim d m)));
          dims = all_good env st after d.dims (same_good d m) s.dims;
        }

    pub still_placed : IsPlaced units i u env after
    still_placed = record { apart = placed.apart; shapes = still_shaped }

-- the number of cells that positive dimensions count
pub size_of_stretch : (ds : List ℤ) → ArePositive ds → pos (size_of ds) ≡ stretch ds
size_of_stretch ds good = let l = whole ds good in ap (λ (z : ℤ). pos (count z)) l.stretch_is ∙ sym l.stretch_is
