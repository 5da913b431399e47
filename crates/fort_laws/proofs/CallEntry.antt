-- A called unit at its entry: its dummies have the cells of their actuals, or cells that hold the same, of the same types.
use Rattle.std.proofs.Common.{◌≡◌, ℕ, zero, suc, ◌+◌, ◌<◌, ◌≤◌, Bool, true, false, ◌&&◌, List, [], ◌∷◌, length, Option, Some, slice_get, ◌⊎◌, inl, inr, refl, sym, ap, ◌∙◌, subst, arith}
use Rattle.std.specs.List.{list_all}
use Rattle.fort_syntax.specs.Names.{dims_of_data, dims_of}
use Rattle.formula.specs.declared.value.Cell.{Cell}
use Rattle.formula.specs.declared.value.Value.{Value}
use Rattle.formula.specs.declared.value.Value.TheVariants.{Cells as CellList}
use Rattle.formula.specs.Values.{of_cell}
use Rattle.fort_syntax.specs.declared.name.Name.{Name}
use Rattle.fort_syntax.specs.declared.dialect.Sort.{Sort}
use Rattle.fort_syntax.specs.declared.dialect.Sort.TheVariants.{Integer, Logical}
use Rattle.fort_syntax.specs.declared.expr.Expr.{Expr}
use Rattle.fort_syntax.specs.declared.expr.Expr.TheVariants.{Var}
use Rattle.fort_syntax.specs.declared.stmt.Dim.{Dim}
use Rattle.fort_syntax.specs.declared.unit.DataName.{DataName}
use Rattle.fort_syntax.specs.declared.unit.Unit.{Unit as Routine}
use Rattle.fort_model.specs.Arguments.{same_sort_as, sort_of_expr, dims_of_actual}
use Rattle.fort_model.specs.Calls.{Calls}
use Rattle.fort_model.specs.Correct.{held_in}
use Rattle.fort_model.specs.Evaluate.{Scene}
use Rattle.fort_model.specs.Fits.{IsVisible, HasShape, Fits, has_sort}
use Rattle.fort_model.specs.Lists.{IsAmong}
use Rattle.fort_model.specs.Passing.{Taken, Cells, Fresh, new_cells, passed_by, passed}
use Rattle.fort_model.specs.Places.{dim_values}
use Rattle.fort_model.specs.Processor.{Processor}
use Rattle.fort_model.specs.Seen.{Named}
use Rattle.fort_model.specs.Storage.{Storage, Extent, Environment, load, contents}
use Rattle.fort_model.specs.WalkCalls.{Operand, Bare, Part, Computed, stands_for}
use Rattle.fort_laws.specs.Actuals.{IsPart, AreTakenAs, HoldsSort, IsOperandOf, ActualOf}
use Rattle.fort_laws.specs.CallLaw.{Agrees, HoldsName}
use Rattle.fort_laws.specs.Frame.{IsPlaced, HasName, IsSoundUnit, IsSoundCall, DimsAgree}
use Rattle.fort_laws.proofs.FrameParts.{good_dims, size_positive}
use Rattle.fort_laws.proofs.FrameSeats.{inner, begun, same_below, new_at, Seated, old_of, old_within, Shared, Root, common, dummy, root, callee_shapes, found, whole_or_not}
use Rattle.fort_laws.proofs.StorageLaws.{widths, seat, copy_holds, value_holds}

-- ---- cells that hold the same

contents_equal : (st other : Storage) (a b n : ℕ) → ((k : ℕ) → k < n → load st (a + k) ≡ load other (b + k)) → contents st a n ≡ contents other b n
contents_equal st other a b zero h = refl
contents_equal st other a b (suc n) h =
    let a0 : a ≡ a + 0 = omega arith in let b0 : b + 0 ≡ b = omega arith in
    ap (λ (c : Cell). c ∷ contents st (suc a) n) (ap (load st) a0 ∙ (h 0 (omega arith) ∙ ap (load other) b0))
    ∙ ap (λ (cs : List Cell). load other b ∷ cs) (contents_equal st other (suc a) (suc b) n (λ k lt.
    let ak : suc a + k ≡ a + suc k = omega arith in let bk : b + suc k ≡ suc b + k = omega arith in
    ap (load st) ak ∙ (h (suc k) (omega arith) ∙ ap (load other) bk)))

pub all_contents : (test : Cell → Bool) (st : Storage) (a n : ℕ) → ((k : ℕ) → k < n → test (load st (a + k)) ≡ true) → list_all test (contents st a n) ≡ true
all_contents test st a zero h = refl
all_contents test st a (suc n) h =
    let a0 : a ≡ a + 0 = omega arith in
    ap (λ (b : Bool). b && list_all test (contents st (suc a) n)) (ap (λ (m : ℕ). test (load st m)) a0 ∙ h 0 (omega arith))
    ∙ all_contents test st (suc a) n (λ k lt. let ak : suc a + k ≡ a + suc k = omega arith in ap (λ (m : ℕ). test (load st m)) ak ∙ h (suc k) (omega arith))

-- both are scalars, or both are arrays
abbrev pub AreAlike : List Dim → List Dim → Type 0
AreAlike [] [] = Unit {0}
AreAlike [] (b ∷ bs) = ⊥
AreAlike (a ∷ ds) [] = ⊥
AreAlike (a ∷ ds) (b ∷ bs) = Unit {0}

pub dims_alike : (g : Routine) (es : List Expr) (ds bs : List Dim) → DimsAgree g es ds bs → AreAlike ds bs
dims_alike g es [] [] h = tt
dims_alike g es [] (b ∷ bs) h = absurd h
dims_alike g es (a ∷ ds) [] h = absurd h
dims_alike g es (a ∷ ds) (b ∷ bs) h = tt

alike_itself : (ds : List Dim) → AreAlike ds ds
alike_itself [] = tt
alike_itself (d ∷ ds) = tt

pub alike_same : (ds bs : List Dim) → ds ≡ bs → AreAlike ds bs
alike_same ds bs e = subst (λ (z : List Dim). AreAlike ds z) e (alike_itself ds)

-- cells of two names hold the same
pub record SameCells (st other : Storage) (e f : Extent) : Type 0 where
  pub size : e.size ≡ f.size
  pub cells : (k : ℕ) → k < f.size → load st (e.first + k) ≡ load other (f.first + k)

pub held_same : (ds bs : List Dim) (st other : Storage) (e f : Extent) → AreAlike ds bs → 1 ≤ f.size → SameCells st other e f → held_in ds st e ≡ held_in bs other f
held_same [] [] st other e f alike one h =
    let a : e.first ≡ e.first + 0 = omega arith in let b : f.first + 0 ≡ f.first = omega arith in
    ap of_cell (ap (load st) a ∙ (h.cells 0 (omega arith) ∙ ap (load other) b))
held_same [] (b ∷ bs) st other e f alike one h = absurd alike
held_same (a ∷ ds) [] st other e f alike one h = absurd alike
held_same (a ∷ ds) (b ∷ bs) st other e f alike one h =
    ap CellList (ap (contents st e.first) h.size ∙ contents_equal st other e.first f.first f.size h.cells)

pub same_sorts : (q : Sort) (o : Option Sort) (r : Sort) → same_sort_as q o ≡ true → o ≡ Some r → q ≡ r
same_sorts q o r h e = by_sorts q r (subst (λ (z : Option Sort). same_sort_as q z ≡ true) e h)
  where
    by_sorts : (q r : Sort) → same_sort_as q (Some r) ≡ true → q ≡ r
    by_sorts Integer Integer h = refl
    by_sorts Logical Logical h = refl
    by_sorts Integer Logical h = absurd (cc)
    by_sorts Logical Integer h = absurd (cc)

module _ (units : List Routine) (i j : ℕ) (c : Calls units i j) (of_caller : IsSoundUnit units i c.caller) (of_callee : IsSoundUnit units j c.callee) (of_call : IsSoundCall c)
    (env : Environment) (st : Storage) (placed : IsPlaced units i c.caller env st) (copies : ℕ → Bool) (xs : List Taken)
    (fit : AreTakenAs env (IsPart c.caller env) c.site.actuals xs) where
  abbrev pub inside : Environment
  inside x = inner units i j c of_caller of_callee of_call env st placed copies xs fit x

  abbrev pub start : Storage
  start = begun units i j c of_caller of_callee of_call env st placed copies xs fit

  abbrev pub Seat : Name → Type 0
  Seat d = Seated units i j c of_caller of_callee of_call env st placed copies xs fit d

  -- cells at the entry hold what was taken
  abbrev pub HoldsTaken : Extent → Taken → Type 0
  HoldsTaken e (Cells f) = SameCells start st e f
  HoldsTaken e (Fresh v) = (e.size ≡ 1) × (load start (e.first + 0) ≡ v)

  below : (k : ℕ) → k < length st → load start k ≡ load st k
  below = same_below units i j c of_caller of_callee of_call env st placed copies xs fit

  news : (k : ℕ) → load start (length st + k) ≡ load (new_cells st (passed copies 1 xs)) k
  news = new_at units i j c of_caller of_callee of_call env st placed copies xs fit

  pub dummy_cells : (d : Name) (s : Seat d) → HoldsTaken (inside d) s.taken
  dummy_cells d s = subst (λ (e : Extent). HoldsTaken e s.taken) (sym s.place) (by_way s.taken (copies (1 + s.at)) refl refl)
    where
      before : ℕ
      before = widths (passed copies 1 xs) s.at

      by_way : (x : Taken) (t : Bool) → s.taken ≡ x → copies (1 + s.at) ≡ t → HoldsTaken (seat (passed_by t x) (length st + before)) x
      by_way (Fresh v) t e q =
          let z : length st + before + 0 ≡ length st + before = omega arith in
          (refl, ap (load start) z ∙ (news before ∙ value_holds st (passed copies 1 xs) s.at v (s.is_passed ∙ ap (λ (y : Taken). Some (passed_by (copies (1 + s.at)) y)) e)))
      by_way (Cells f) false e q = record {
        size = refl;
        cells = λ k lt. below (f.first + k)
            (let w = old_within units i j c of_caller of_callee of_call env st placed copies xs fit s.actual f (old_of units i j c of_caller of_callee of_call env st placed copies xs fit d s f e) in omega arith);
      }
      by_way (Cells f) true e q = record {
        size = refl;
        cells = λ k lt.
            let z : length st + before + k ≡ length st + (before + k) = omega arith in
            ap (load start) z ∙ (news (before + k) ∙ copy_holds st (passed copies 1 xs) s.at f k
            (s.is_passed ∙ (ap (λ (y : Taken). Some (passed_by (copies (1 + s.at)) y)) e ∙ ap (λ (b : Bool). Some (passed_by b (Cells f))) q)) lt);
      }

  -- a visible name has a cell at least
  pub one_cell : (d : DataName) → IsVisible c.callee d → 1 ≤ (inside d.name).size
  one_cell d v =
      let shape : HasShape inside start d = callee_shapes units i j c of_caller of_callee of_call env st placed copies xs fit d v in
      size_positive (inside d.name).size (dim_values inside start d.dims) shape.size (good_dims inside start d.dims (λ n m. of_callee.constants d n v.among m) shape.dims)

  -- a COMMON entity has the caller's cells
  pub shared_cells : (d : DataName) (s : Shared units i j c of_caller of_callee of_call env st placed copies xs fit d) → SameCells start st (inside d.name) (env s.its.name)
  shared_cells d s =
      let same : inside d.name ≡ env s.its.name = s.place ∙ ap env (sym s.name) in
      let within = (placed.shapes s.its s.among).within in
      subst (λ (e : Extent). SameCells start st e (env s.its.name)) (sym same) (record { size = refl; cells = λ k lt. below ((env s.its.name).first + k) (omega arith) })

  -- ---- types

  module _ (p : Processor) (agree : Agrees c) (sorted : (d : DataName) → IsAmong d c.caller.names → HoldsName p env st d)
      (typed : (n : ℕ) (e : Expr) (t : Taken) → slice_get c.site.actuals n ≡ Some e → slice_get xs n ≡ Some t → (q : Sort) × (sort_of_expr c.caller e ≡ Some q) × HoldsSort p st q t) where
    taken_sorts : (q : Sort) (e : Extent) (t : Taken) → HoldsTaken e t → HoldsSort p st q t → (k : ℕ) → k < e.size → has_sort p q (load start (e.first + k)) ≡ true
    taken_sorts q e (Cells f) h holds k lt = let s = h.size in ap (has_sort p q) (h.cells k (omega arith)) ∙ holds k (omega arith)
    taken_sorts q e (Fresh v) h holds k lt =
        let one = h.0 in let z : e.first + k ≡ e.first + 0 = omega arith in
        ap (λ (m : ℕ). has_sort p q (load start m)) z ∙ (ap (has_sort p q) h.1 ∙ holds)

    pub callee_sorts : (d : DataName) → IsVisible c.callee d → HoldsName p inside start d
    callee_sorts d v = by_root (root units i j c of_caller of_callee of_call env st placed copies xs fit d v)
      where
        by_root : Root units i j c of_caller of_callee of_call env st placed copies xs fit d → HoldsName p inside start d
        by_root (common r s) k lt =
            let same = shared_cells d s in
            let z = same.size in
            ap (has_sort p d.sort) (same.cells k (omega arith))
            ∙ subst (λ (q : Sort). has_sort p q (load st ((env s.its.name).first + k)) ≡ true) (agree.commons d s.its v.among r s.among s.name) (sorted s.its s.among k (omega arith))
        by_root (dummy r s dims) k lt =
            let t = typed s.at s.actual s.taken s.is_actual s.is_taken in
            let q : d.sort ≡ t.0 = same_sorts d.sort _ t.0 (agree.dummies d s.at s.actual v.among s.dummy s.is_actual) t.1 in
            taken_sorts d.sort (inside d.name) s.taken (dummy_cells d.name s) (subst (λ (z : Sort). HoldsSort p st z s.taken) (sym q) t.2) k lt

    pub callee_fits : Fits p c.callee inside start
    callee_fits = record {
      shapes = callee_shapes units i j c of_caller of_callee of_call env st placed copies xs fit;
      sorts = λ d v. all_contents (has_sort p d.sort) start (inside d.name).first (inside d.name).size (callee_sorts d v);
    }

  -- ---- values

  module _ (now : Named Value) (named : (d : DataName) → IsAmong d c.caller.names → now d.name ≡ held_in d.dims st (env d.name)) where
    -- what an operand stands for is held by what is taken for it
    pub bare_holds : (y : Name) → HasName c.caller y → now y ≡ held_in (dims_of c.caller y) st (env y)
    bare_holds y has =
        let dims : has.its.dims ≡ dims_of c.caller y = ap dims_of_data (sym (found units i c.caller of_caller has.its has.among y has.name)) in
        subst (λ (z : Name). now z ≡ held_in (dims_of c.caller y) st (env z)) has.name
        (subst (λ (ds : List Dim). now has.its.name ≡ held_in ds st (env has.its.name)) dims (named has.its has.among))

    no_dims : (e : Expr) → ((x : Name) → e ≡ Var x → ⊥) → dims_of_actual c.caller e ≡ []
    no_dims e other = pick (whole_or_not c.caller e)
      where
        pick : ((y : Name) × (e ≡ Var y)) ⊎ ((dims_of_actual c.caller e ≡ []) × ((y : Name) → e ≡ Var y → ⊥)) → dims_of_actual c.caller e ≡ []
        pick (inl w) = absurd (other w.0 w.1)
        pick (inr w) = w.0

    pub dummy_value : (s : Scene) → s.environment ≡ env → (d : DataName) → IsVisible c.callee d → (t : Seat d.name) → DimsAgree c.callee c.site.actuals d.dims (dims_of_actual c.caller t.actual)
        → (o : Operand Value) → ActualOf s st now o t.taken → IsOperandOf now t.actual o → held_in d.dims start (inside d.name) ≡ stands_for o
    dummy_value s scene d v t agree o actual operand = by_taken o t.taken refl actual operand (dummy_cells d.name t)
      where
        whole : (e : Expr) → t.actual ≡ e → AreAlike d.dims (dims_of_actual c.caller e)
        whole e q = subst (λ (z : Expr). AreAlike d.dims (dims_of_actual c.caller z)) q (dims_alike c.callee c.site.actuals d.dims (dims_of_actual c.caller t.actual) agree)

        scalar : ((x : Name) → t.actual ≡ Var x → ⊥) → AreAlike d.dims []
        scalar other = subst (λ (ds : List Dim). AreAlike d.dims ds) (no_dims t.actual other) (whole t.actual refl)

        fresh_held : (ds : List Dim) → AreAlike ds [] → load start ((inside d.name).first + 0) ≡ load start (inside d.name).first → held_in ds start (inside d.name) ≡ of_cell (load start (inside d.name).first)
        fresh_held [] h e = refl
        fresh_held (b ∷ bs) h e = absurd h

        by_taken : (o : Operand Value) (x : Taken) → t.taken ≡ x → ActualOf s st now o x → IsOperandOf now t.actual o → HoldsTaken (inside d.name) x → held_in d.dims start (inside d.name) ≡ stands_for o
        by_taken (Bare y w) (Cells f) q a b h =
            let e : f ≡ env y = a.0 ∙ ap (λ (en : Environment). en y) scene in
            let one : 1 ≤ f.size = (let z = h.size in let n = one_cell d v in omega arith) in
            held_same d.dims (dims_of c.caller y) start st (inside d.name) f (whole (Var y) b.0) one h
            ∙ (ap (held_in (dims_of c.caller y) st) e ∙ (sym (bare_holds y (of_call.names t.at y (t.is_actual ∙ ap Some b.0))) ∙ sym b.1))
        by_taken (Bare y w) (Fresh v2) q a b h = absurd a
        by_taken (Part w) (Cells f) q a b h =
            let one : 1 ≤ f.size = (let z = h.size in let n = one_cell d v in omega arith) in
            held_same d.dims [] start st (inside d.name) f (scalar b) one h ∙ sym a
        by_taken (Part w) (Fresh v2) q a b h = absurd a
        by_taken (Computed w) (Cells f) q a b h = absurd a
        by_taken (Computed w) (Fresh v2) q a b h =
            let z : (inside d.name).first + 0 ≡ (inside d.name).first = omega arith in
            fresh_held d.dims (scalar b) (ap (load start) z) ∙ (ap of_cell (ap (load start) (sym z) ∙ h.1) ∙ sym a)

    pub shared_value : (d : DataName) → IsVisible c.callee d → (s : Shared units i j c of_caller of_callee of_call env st placed copies xs fit d) → held_in d.dims start (inside d.name) ≡ now d.name
    shared_value d v s =
        let h = shared_cells d s in
        let one : 1 ≤ (env s.its.name).size = (let z = h.size in let n = one_cell d v in omega arith) in
        held_same d.dims s.its.dims start st (inside d.name) (env s.its.name) (alike_same d.dims s.its.dims (sym s.dims)) one h ∙ (sym (named s.its s.among) ∙ ap now s.name)
