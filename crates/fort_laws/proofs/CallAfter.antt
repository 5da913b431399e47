-- A call on a walk and in a run: what names stand for at the callee's entry and end, and in the caller afterwards.
use Rattle.std.proofs.Common.{◌≡◌, ◌≢◌, ℕ, ◌+◌, ◌<◌, ◌≤◌, ◌⊎◌, inl, inr, Bool, true, false, cond, ◌&&◌, List, [], ◌∷◌, map, length, Option, Some, None, slice_get, refl, sym, ap, ◌∙◌, subst, arith, ext_get_or}
use Rattle.formula.specs.Atoms.{same_bytes, is_among}
use Rattle.fort_syntax.specs.Names.{data_name, dims_of_data, dims_of, is_function, is_own, has_common, has_role, is_in_common, commons}
use Rattle.formula.specs.declared.value.Cell.{Cell}
use Rattle.formula.specs.declared.value.Cell.TheVariants as cell
use Rattle.formula.specs.declared.value.Value.{Value}
use Rattle.formula.specs.declared.value.Value.TheVariants.{Undefined}
use Rattle.formula.specs.Values.{of_cell}
use Rattle.formula.specs.Worth.{Function}
use Rattle.fort_syntax.specs.declared.name.Name.{Name}
use Rattle.fort_syntax.specs.declared.dialect.Sort.{Sort}
use Rattle.fort_syntax.specs.declared.expr.Expr.{Expr}
use Rattle.fort_syntax.specs.declared.expr.Expr.TheVariants.{Var}
use Rattle.fort_syntax.specs.declared.stmt.Dim.{Dim}
use Rattle.fort_syntax.specs.declared.unit.DataName.{DataName}
use Rattle.fort_syntax.specs.declared.unit.Role.{Role}
use Rattle.fort_syntax.specs.declared.unit.Role.TheVariants.{Dummy, InCommon, OwnValue, Local}
use Rattle.fort_syntax.specs.declared.unit.Unit.{Unit as Routine}
use Rattle.fort_model.specs.Arguments.{mentions, sort_of_expr, data_sort, dims_of_actual}
use Rattle.fort_model.specs.Calls.{Calls}
use Rattle.fort_model.specs.Conditions.{sight}
use Rattle.fort_model.specs.Correct.{held_in, names_hold}
use Rattle.fort_model.specs.Evaluate.{Scene}
use Rattle.fort_model.specs.Fits.{IsIn, IsVisible, Fits, has_sort}
use Rattle.fort_model.specs.Lists.{IsAmong}
use Rattle.fort_model.specs.Outcome.{Ended}
use Rattle.fort_model.specs.Passing.{Taken, Cells}
use Rattle.fort_model.specs.Processor.{Processor}
use Rattle.fort_model.specs.Program.{Program, is_smashed}
use Rattle.fort_model.specs.Seen.{Named}
use Rattle.fort_model.specs.Senses.{of_values}
use Rattle.fort_model.specs.Smashes.{Smashes, HoldsSmashed, passes, shares}
use Rattle.fort_model.specs.Storage.{Storage, Extent, Environment, load}
use Rattle.fort_model.specs.Symbols.{Symbol}
use Rattle.fort_model.specs.WalkCalls as walk
use Rattle.fort_model.specs.WalkCalls.{Sight, Operand, Bare, Part, Computed, stands_for, seen_by, hits, smashed_actuals, smashed_commons, stands_after}
use Rattle.fort_laws.specs.Actuals.{IsPart, AreTakenAs, HoldsSort, IsOperandOf, ActualOf, ArePassed}
use Rattle.fort_laws.specs.CallLaw.{HasNames, Agrees, HoldsName}
use Rattle.fort_laws.specs.Frame.{IsPlaced, HasName, IsSoundUnit, IsSoundCall, SharesBlocks, IsSmashedCell, OthersKept, DimsAgree}
use Rattle.fort_laws.specs.GoodStatements.{Stood}
use Rattle.fort_laws.proofs.CallBack.{final, shared_back, dummy_back, unsmashed_cells}
use Rattle.fort_laws.proofs.CallEntry.{SameCells, held_same, dims_alike, alike_same, AreAlike, same_sorts, inside, start, Seat, one_cell, callee_fits, dummy_value, shared_value}
use Rattle.fort_laws.proofs.CallHits.{smashed_among, among_smashed}
use Rattle.fort_laws.proofs.CallNames.{data_name_is, seen_is}
use Rattle.fort_laws.proofs.CallPassed.{bare_operand, are_taken, at_actual, at_operand}
use Rattle.fort_laws.proofs.FrameCalls.{call_changes_only}
use Rattle.fort_laws.proofs.FrameEnter.{SameOrNot, same, other, same_or_not}
use Rattle.fort_laws.proofs.FrameParts.{still_placed, one_cell as caller_cell}
use Rattle.fort_laws.proofs.FrameSeats.{clash, same_self, found, is_common, Place, old, new, place_of, Shared, shared, shared_inside, Root, common, dummy, root, bare, bare_cells}
use Rattle.fort_laws.proofs.Kept.{among_left, among_right}
use Rattle.fort_laws.proofs.Near.{known}
use Rattle.fort_laws.proofs.References.{among_either}
use Rattle.fort_laws.proofs.RulesKept.{passes_filter, passes_any}
use Rattle.fort_laws.proofs.Small.{both_hold, both_parts, filter_passes, some_passes, map_at}
use Rattle.fort_laws.proofs.Written.{equal_or_not}

in_common : (r : Role) → is_in_common r ≡ true → r ≡ InCommon
in_common Dummy e = absurd (cc)
in_common InCommon e = refl
in_common OwnValue e = absurd (cc)
in_common Local e = absurd (cc)

alike_back : (ds bs : List Dim) → AreAlike ds bs → AreAlike bs ds
alike_back [] [] h = tt
alike_back [] (b ∷ bs) h = absurd h
alike_back (a ∷ ds) [] h = absurd h
alike_back (a ∷ ds) (b ∷ bs) h = tt

module _ (program : Program) (i j : ℕ) (c : Calls program.units i j) (of_caller : IsSoundUnit program.units i c.caller) (of_callee : IsSoundUnit program.units j c.callee) (of_call : IsSoundCall c)
    (table : HoldsSmashed program) (blocks : SharesBlocks program.units) (agree : Agrees c) (names : HasNames c.callee) (fs : List Function) (values : Symbol → Value) (p : Processor)
    (env : Environment) (st : Storage) (now : Named Value) (stood : Stood p c.caller env now st) (sorted : (d : DataName) → IsAmong d c.caller.names → HoldsName p env st d) (placed : IsPlaced program.units i c.caller env st)
    (copies : ℕ → Bool) (os : List (Operand Value)) (xs : List Taken)
    (passing : ArePassed (record { processor = p; units = program.units; unit = c.caller; environment = env }) st now c.site.actuals os xs) where
  abbrev here : Scene
  here = record { processor = p; units = program.units; unit = c.caller; environment = env }

  abbrev g : Routine
  g = c.callee

  abbrev w : Sight Value
  w = sight (of_values fs values) program i c.caller

  pub fit : AreTakenAs env (IsPart c.caller env) c.site.actuals xs
  fit = are_taken here st now c.site.actuals os xs passing

  abbrev pub cells_in : Environment
  cells_in x = inside program.units i j c of_caller of_callee of_call env st placed copies xs fit x

  abbrev pub begun : Storage
  begun = start program.units i j c of_caller of_callee of_call env st placed copies xs fit

  abbrev SeatOf : Name → Type 0
  SeatOf d = Seat program.units i j c of_caller of_callee of_call env st placed copies xs fit d

  abbrev SharedOf : DataName → Type 0
  SharedOf d = Shared program.units i j c of_caller of_callee of_call env st placed copies xs fit d

  some_same : {A : Type 0} (x y : A) → Some x ≡ Some y → x ≡ y
  some_same x y h = cc

  named : (d : DataName) → IsAmong d c.caller.names → now d.name ≡ held_in d.dims st (env d.name)
  named d m = stood.standing.names d.name d (found program.units i c.caller of_caller d m d.name refl)

  typed : (n : ℕ) (e : Expr) (t : Taken) → slice_get c.site.actuals n ≡ Some e → slice_get xs n ≡ Some t → (q : Sort) × (sort_of_expr c.caller e ≡ Some q) × HoldsSort p st q t
  typed n e t a b =
      let r = at_actual here st now c.site.actuals os xs n e passing a in
      let es : r.actual ≡ e = some_same r.actual e (sym r.is_actual ∙ a) in
      let ts : r.taken ≡ t = some_same r.taken t (sym r.is_taken ∙ b) in
      (r.passed.sort, ap (sort_of_expr c.caller) (sym es) ∙ r.passed.sort_is, subst (λ (z : Taken). HoldsSort p st r.passed.sort z) ts r.passed.holds)

  pub entry_fits : Fits p g cells_in begun
  entry_fits = callee_fits program.units i j c of_caller of_callee of_call env st placed copies xs fit p agree sorted typed

  -- ---- dummies

  visible_dummy : (d : DataName) → IsAmong d g.names → d.role ≡ Dummy → IsVisible g d
  visible_dummy d m r = record { among = m; not_own = ap is_own r }

  visible_common : (d : DataName) → IsAmong d g.names → d.role ≡ InCommon → IsVisible g d
  visible_common d m r = record { among = m; not_own = ap is_own r }

  -- a dummy with its seat, its operand, and the agreement of dimensions
  record Seen (d : DataName) (n : ℕ) : Type 0 where
    seat : SeatOf d.name
    at : seat.at ≡ n
    dims : DimsAgree g c.site.actuals d.dims (dims_of_actual c.caller seat.actual)
    operand : Operand Value
    is_operand : slice_get os n ≡ Some operand
    form : IsOperandOf now seat.actual operand
    held : held_in d.dims begun (cells_in d.name) ≡ stands_for operand

  seen : (d : DataName) (n : ℕ) → IsAmong d g.names → d.role ≡ Dummy → slice_get g.dummies n ≡ Some d.name → Seen d n
  seen d n m r k = by_root (root program.units i j c of_caller of_callee of_call env st placed copies xs fit d (visible_dummy d m r))
    where
      by_root : Root program.units i j c of_caller of_callee of_call env st placed copies xs fit d → Seen d n
      by_root (common q s) = absurd (clash (is_in_common d.role) (ap is_in_common q) (ap is_in_common r))
      by_root (dummy q t dims) =
          let a = at_actual here st now c.site.actuals os xs t.at t.actual passing t.is_actual in
          let es : a.actual ≡ t.actual = some_same a.actual t.actual (sym a.is_actual ∙ t.is_actual) in
          let ts : a.taken ≡ t.taken = some_same a.taken t.taken (sym a.is_taken ∙ t.is_taken) in
          let at : t.at ≡ n = of_callee.one_dummy t.at n d.name t.dummy k in
          let form : IsOperandOf now t.actual a.operand = subst (λ (z : Expr). IsOperandOf now z a.operand) es a.passed.operand in
          record {
            seat = t;
            at = at;
            dims = dims;
            operand = a.operand;
            is_operand = ap (slice_get os) (sym at) ∙ a.is_operand;
            form = form;
            held = dummy_value program.units i j c of_caller of_callee of_call env st placed copies xs fit now named here refl d (visible_dummy d m r) t dims a.operand
                (subst (λ (z : Taken). ActualOf here st now a.operand z) ts a.passed.value) form;
          }

  shared_of : (d : DataName) → IsAmong d g.names → d.role ≡ InCommon → SharedOf d
  shared_of d m r = shared program.units i j c of_caller of_callee of_call env st placed copies xs fit d m r

  entry_common : (d : DataName) → IsAmong d g.names → d.role ≡ InCommon → now d.name ≡ held_in d.dims begun (cells_in d.name)
  entry_common d m r = sym (shared_value program.units i j c of_caller of_callee of_call env st placed copies xs fit now named d (visible_common d m r) (shared_of d m r))

  -- at the entry names stand for what they hold
  pub entry_seen : (x : Name) → seen_by w g (map stands_for os) now Undefined x ≡ names_hold g cells_in begun cell.Undefined x
  entry_seen = seen_is fs values program i c.caller program.units j g of_callee names (map stands_for os) now Undefined cells_in begun cell.Undefined
      (λ d n m r k. let s = seen d n m r k in (stands_for s.operand, map_at stands_for os n s.operand s.is_operand, sym s.held)) entry_common refl (λ f. refl)

  -- ---- names of the caller that the call smashes

  pub data Hit (y : Name) : Type 0 where
    by_dummy : (n : ℕ) (d : Name) → slice_get g.dummies n ≡ Some d → Smashes program.units j d → slice_get c.site.actuals n ≡ Some (Var y) → Hit y
    by_common : has_common g y ≡ true → Smashes program.units j y → Hit y

  abbrev pub hit_names : List Name
  hit_names = hits w j g os

  abbrev actuals_hit : List Name
  actuals_hit = smashed_actuals w (is_smashed program j) g.dummies os

  abbrev commons_hit : List Name
  commons_hit = smashed_commons w (is_smashed program j) g

  abbrev is_common_hit : Name → Bool
  is_common_hit x = has_common g x && is_smashed program j x

  hit_listed : (y : Name) → Hit y → IsAmong y hit_names
  hit_listed y (by_dummy n d e s a) =
      let r = at_actual here st now c.site.actuals os xs n (Var y) passing a in
      let es : r.actual ≡ Var y = some_same r.actual (Var y) (sym r.is_actual ∙ a) in
      let o = bare_operand now y r.operand (subst (λ (z : Expr). IsOperandOf now z r.operand) es r.passed.operand) in
      among_left y actuals_hit commons_hit (smashed_among w (is_smashed program j) g.dummies os n d y o.0 e ((table j d).1 s) (r.is_operand ∙ ap Some o.1))
  hit_listed y (by_common h s) =
      among_right y actuals_hit commons_hit (passes_filter is_common_hit (commons c.caller) y (blocks i j c y h) (both_hold (has_common g y) (is_smashed program j y) h ((table j y).1 s)))

  pub hit_among : (y : Name) → Hit y → is_among y hit_names ≡ true
  hit_among y h = passes_any (same_bytes y) hit_names y (hit_listed y h) (same_self y)

  same_text : (x y : Name) → same_bytes x y ≡ true → x ≡ y
  same_text x y h = pick (same_or_not x y)
    where
      pick : SameOrNot x y → x ≡ y
      pick (same e t) = e
      pick (other n t) = absurd (clash (same_bytes x y) h t)

  listed_hit : (y : Name) → IsAmong y hit_names → Hit y
  listed_hit y m = pick (among_either y actuals_hit commons_hit m)
    where
      pick : IsAmong y actuals_hit ⊎ IsAmong y commons_hit → Hit y
      pick (inl a) =
          let r = among_smashed w (is_smashed program j) g.dummies os y a in
          let t = at_operand here st now c.site.actuals os xs r.at (Bare y r.value) passing r.is_operand in
          let o : t.operand ≡ Bare y r.value = some_same t.operand (Bare y r.value) (sym t.is_operand ∙ r.is_operand) in
          let form : IsOperandOf now t.actual (Bare y r.value) = subst (λ (z : Operand Value). IsOperandOf now t.actual z) o t.passed.operand in
          by_dummy r.at r.dummy r.is_dummy ((table j r.dummy).0 r.is_smashed) (t.is_actual ∙ ap Some form.0)
      pick (inr b) =
          let r = filter_passes is_common_hit (commons c.caller) y b in
          let t = both_parts (has_common g y) (is_smashed program j y) r.1 in
          by_common t.0 ((table j y).0 t.1)

  pub among_hit : (y : Name) → is_among y hit_names ≡ true → Hit y
  among_hit y h = let r = some_passes (same_bytes y) hit_names h in subst Hit (sym (same_text y r.0 r.2)) (listed_hit r.0 r.1)

  -- a COMMON entity of the called unit
  common_data : (y : Name) → has_common g y ≡ true → (d : DataName) × IsAmong d g.names × (d.name ≡ y) × (d.role ≡ InCommon)
  common_data y h = by_data (data_name g y) refl
    where
      by_data : (o : Option DataName) → data_name g y ≡ o → (d : DataName) × IsAmong d g.names × (d.name ≡ y) × (d.role ≡ InCommon)
      by_data None e = absurd (clash (has_common g y) h (ap (has_role is_in_common) e))
      by_data (Some d) e = let k = data_name_is g.names y d e in (d, k.0, k.1, in_common d.role (sym (ap (has_role is_in_common) e) ∙ h))

  pub hit_smashes : (y : Name) → Hit y → Smashes program.units i y
  hit_smashes y (by_dummy n d e s a) = passes c n e a s
  hit_smashes y (by_common h s) =
      let d = common_data y h in
      let t = shared_of d.0 d.1 d.3 in
      shares c (is_common program.units i c.caller of_caller t.its t.among y (t.name ∙ d.2) t.role) h s

  -- an actual of an unsmashed dummy is not smashed
  unhit_actual : (n : ℕ) (d y : Name) → slice_get g.dummies n ≡ Some d → (Smashes program.units j d → ⊥) → slice_get c.site.actuals n ≡ Some (Var y) → Hit y → ⊥
  unhit_actual n d y e u a (by_dummy m f q s b) = pick (equal_or_not n m)
    where
      pick : (n ≡ m) ⊎ (n ≢ m) → ⊥
      pick (inl k) = u (subst (λ (z : Name). Smashes program.units j z) (some_same f d (sym q ∙ (ap (slice_get g.dummies) (sym k) ∙ e))) s)
      pick (inr k) = clash (mentions (Var y) y) (same_self y) (of_call.smashed.once n m f y (Var y) k q s b a)
  unhit_actual n d y e u a (by_common h s) = clash (mentions (Var y) y) (same_self y) (of_call.smashed.no_common n y (Var y) h s a)

  unhit_common : (d : DataName) → IsAmong d g.names → d.role ≡ InCommon → (Smashes program.units j d.name → ⊥) → Hit d.name → ⊥
  unhit_common d m r u (by_dummy n f q s b) =
      let t = shared_of d m r in
      of_call.smashed.not_shared n f d.name q s b (is_common program.units i c.caller of_caller t.its t.among d.name t.name t.role) (is_common program.units j g of_callee d m d.name refl r)
  unhit_common d m r u (by_common h s) = u s

  -- ---- where the called unit ended

  module _ (after : Storage) (value : Cell) (long : length after ≡ length begun) (kept : OthersKept (IsSmashedCell program.units j g cells_in) begun after)
      (ended_sorts : (d : DataName) → IsVisible g d → HoldsName p cells_in after d) (nothing : is_function g ≡ false → value ≡ cell.Undefined) where
    abbrev pub left : Storage
    left = final program.units i j c of_caller of_callee of_call env st placed copies xs fit after long

    abbrev MayHit : ℕ → Type 0
    MayHit k = (d : DataName) × IsAmong d c.caller.names × Hit d.name × IsIn k (env d.name)

    may_actual : (d : DataName) → IsVisible g d → (t : SeatOf d.name) → Smashes program.units j d.name → (e : Extent) → t.taken ≡ Cells e → (k : ℕ) → IsIn k e → MayHit k
    may_actual d v t h e q k here2 =
        let b = bare program.units i j c of_caller of_callee of_call env st placed copies xs fit d.name t h in (
          b.has.its,
          b.has.among,
          by_dummy t.at d.name t.dummy h (t.is_actual ∙ ap Some (b.is ∙ ap Var (sym b.has.name))),
          subst (λ (z : Extent). IsIn k z) (bare_cells program.units i j c of_caller of_callee of_call env st placed copies xs fit d.name t b e q) here2,
        )

    may_smashed : (d : DataName) → IsVisible g d → Smashes program.units j d.name → (k : ℕ) → k < length st → IsIn k (cells_in d.name) → MayHit k
    may_smashed d v h k lt here2 = by_root (root program.units i j c of_caller of_callee of_call env st placed copies xs fit d v)
      where
        by_place : (t : SeatOf d.name) → Place program.units i j c of_caller of_callee of_call env st placed copies xs fit d.name t → MayHit k
        by_place t (old e q pl) = may_actual d v t h e q k (subst (λ (z : Extent). IsIn k z) pl here2)
        by_place t (new y q pl) = let r = (subst (λ (z : Extent). IsIn k z) pl here2).0 in absurd (omega arith)

        by_root : Root program.units i j c of_caller of_callee of_call env st placed copies xs fit d → MayHit k
        by_root (common r s) = (
          s.its,
          s.among,
          by_common (is_common program.units j g of_callee d v.among s.its.name (sym s.name) r) (subst (λ (z : Name). Smashes program.units j z) (sym s.name) h),
          shared_inside program.units i j c of_caller of_callee of_call env st placed copies xs fit d s k here2,
        )
        by_root (dummy r t dims) = by_place t (place_of program.units i j c of_caller of_callee of_call env st placed copies xs fit d.name t)

    pub left_frame : (length left ≡ length st) × OthersKept MayHit st left
    left_frame = call_changes_only program.units i j c of_caller of_callee of_call env st placed copies xs fit MayHit may_smashed may_actual (Ended value after 0) (long, kept)

    pub left_placed : IsPlaced program.units i c.caller env left
    left_placed = still_placed program.units i c.caller of_caller env st placed left
        (left_frame.0, λ k lt closed. left_frame.1 k lt (λ m. closed (record { its = m.0; among = m.1; smashed = hit_smashes m.0.name m.2; cell = m.3 })))

    -- where the called unit smashes nothing, nothing is changed
    pub left_kept : ((d : DataName) → IsVisible g d → Smashes program.units j d.name → ⊥) → left ≡ st
    left_kept none = ext_get_or cell.Undefined left st left_frame.0 (λ k lt. left_frame.1 k (let l = left_frame.0 in omega arith) (λ m. none_hit m.0.name m.2))
      where
        none_hit : (y : Name) → Hit y → ⊥
        none_hit y (by_dummy n d e s a) =
            let has : HasName g d = names.dummies n d e in
            let r : has.its.role ≡ Dummy = of_callee.roles has.its has.among (n, e ∙ ap Some (sym has.name)) in
            none has.its (visible_dummy has.its has.among r) (subst (λ (z : Name). Smashes program.units j z) (sym has.name) s)
        none_hit y (by_common h s) =
            let d = common_data y h in
            none d.0 (visible_common d.0 d.1 d.3) (subst (λ (z : Name). Smashes program.units j z) (sym d.2) s)

    unhit_cells : (d : DataName) → IsAmong d c.caller.names → (Hit d.name → ⊥) → SameCells left st (env d.name) (env d.name)
    unhit_cells d m n = record {
      size = refl;
      cells = λ k lt.
          let within = (placed.shapes d m).within in
          left_frame.1 ((env d.name).first + k) (omega arith) (λ f.
          placed.apart f.0 d f.1 m (hit_smashes f.0.name f.2) (λ q. n (subst Hit q f.2)) ((env d.name).first + k) f.3 (omega arith, omega arith));
    }

    -- cells of a smashed name are those of a name of the called unit
    record Back (d : DataName) : Type 0 where
      its : DataName
      visible : IsVisible g its
      cells : SameCells left after (env d.name) (cells_in its.name)
      sort : its.sort ≡ d.sort

    hit_back : (d : DataName) → IsAmong d c.caller.names → Hit d.name → Back d
    hit_back d m (by_dummy n f e s a) =
        let has : HasName g f = names.dummies n f e in
        let is_dummy : slice_get g.dummies n ≡ Some has.its.name = e ∙ ap Some (sym has.name) in
        let r : has.its.role ≡ Dummy = of_callee.roles has.its has.among (n, is_dummy) in
        let t = seen has.its n has.among r is_dummy in
        let v : IsVisible g has.its = visible_dummy has.its has.among r in
        let h : Smashes program.units j has.its.name = subst (λ (z : Name). Smashes program.units j z) (sym has.name) s in
        let b = bare program.units i j c of_caller of_callee of_call env st placed copies xs fit has.its.name t.seat h in
        let actual : Var b.name ≡ Var d.name = sym b.is ∙ some_same t.seat.actual (Var d.name) (sym t.seat.is_actual ∙ (ap (slice_get c.site.actuals) t.at ∙ a)) in
        record {
          its = has.its;
          visible = v;
          cells = subst (λ (z : Name). SameCells left after (env z) (cells_in has.its.name)) (b.has.name ∙ same_var b.name d.name actual)
              (dummy_back program.units i j c of_caller of_callee of_call env st placed copies xs fit after long has.its v t.seat h);
          sort = same_sorts has.its.sort _ d.sort (agree.dummies has.its n (Var d.name) has.among is_dummy a) (ap data_sort (found program.units i c.caller of_caller d m d.name refl));
        }
      where
        same_var : (x y : Name) → Var x ≡ Var y → x ≡ y
        same_var x y q = cc
    hit_back d m (by_common h s) =
        let k = common_data d.name h in
        let t = shared_of k.0 k.1 k.3 in
        let v = visible_common k.0 k.1 k.3 in
        record {
          its = k.0;
          visible = v;
          cells = subst (λ (z : Name). SameCells left after (env z) (cells_in k.0.name)) (t.name ∙ k.2)
              (shared_back program.units i j c of_caller of_callee of_call env st placed copies xs fit after long k.0 v k.3 t (subst (λ (z : Name). Smashes program.units j z) (sym k.2) s));
          sort = sym (agree.commons k.0 d k.1 k.3 m (sym k.2));
        }

    pub left_sorted : (d : DataName) → IsAmong d c.caller.names → HoldsName p env left d
    left_sorted d m k lt = known (is_among d.name hit_names)
        (λ t. let b = hit_back d m (among_hit d.name t) in
        let z = b.cells.size in
        ap (has_sort p d.sort) (b.cells.cells k (omega arith)) ∙ subst (λ (q : Sort). has_sort p q (load after ((cells_in b.its.name).first + k)) ≡ true) b.sort (ended_sorts b.its b.visible k (omega arith)))
        (λ f. ap (has_sort p d.sort) ((unhit_cells d m (λ h. clash (is_among d.name hit_names) (hit_among d.name h) f)).cells k lt) ∙ sorted d m k lt)

    -- ---- values afterwards

    -- what is answered: the value of the called unit, and what the names hold then
    abbrev pub new_names : Named Value
    new_names x = cond (same_bytes g.name x) (of_cell value) (held_in (dims_of c.caller x) left (env x))

    abbrev pub after_names : Named Value
    after_names = walk.changed w hit_names new_names now

    caller_one : (d : DataName) → IsAmong d c.caller.names → 1 ≤ (env d.name).size
    caller_one d m = caller_cell program.units i c.caller of_caller env st placed d m

    pub left_named : (d : DataName) → IsAmong d c.caller.names → after_names d.name ≡ held_in d.dims left (env d.name)
    left_named d m = known (is_among d.name hit_names)
        (λ t. ap (λ (b : Bool). cond b (new_names d.name) (now d.name)) t
        ∙ (ap (λ (b : Bool). cond b (of_cell value) (held_in (dims_of c.caller d.name) left (env d.name))) (other_name (same_or_not g.name d.name))
        ∙ ap (λ (o : Option DataName). held_in (dims_of_data o) left (env d.name)) (found program.units i c.caller of_caller d m d.name refl)))
        (λ f. ap (λ (b : Bool). cond b (new_names d.name) (now d.name)) f
        ∙ (named d m ∙ sym (held_same d.dims d.dims left st (env d.name) (env d.name) (alike_same d.dims d.dims refl) (caller_one d m) (unhit_cells d m (λ h. clash (is_among d.name hit_names) (hit_among d.name h) f)))))
      where
        other_name : SameOrNot g.name d.name → same_bytes g.name d.name ≡ false
        other_name (same e t) = absurd (agree.apart d m (sym e))
        other_name (other n t) = t

    -- the value of the called unit is answered for its name
    pub new_result : new_names g.name ≡ of_cell value
    new_result = ap (λ (b : Bool). cond b (of_cell value) (held_in (dims_of c.caller g.name) left (env g.name))) (same_self g.name)

    unhit_name : (y : Name) → (Hit y → ⊥) → after_names y ≡ now y
    unhit_name y n = known (is_among y hit_names) (λ t. absurd (n (among_hit y t))) (λ f. ap (λ (b : Bool). cond b (new_names y) (now y)) f)

    -- what an unsmashed visible name of the called unit holds is as at the entry
    kept_held : (d : DataName) → IsVisible g d → (Smashes program.units j d.name → ⊥) → held_in d.dims begun (cells_in d.name) ≡ held_in d.dims after (cells_in d.name)
    kept_held d v u =
        sym (held_same d.dims d.dims after begun (cells_in d.name) (cells_in d.name) (alike_same d.dims d.dims refl)
        (one_cell program.units i j c of_caller of_callee of_call env st placed copies xs fit d v)
        (unsmashed_cells program.units i j c of_caller of_callee of_call env st placed copies xs fit after long kept d v u))

    not_smashed : (x : Name) → is_smashed program j x ≡ false → Smashes program.units j x → ⊥
    not_smashed x f s = clash (is_smashed program j x) ((table j x).1 s) f

    dummy_after : (d : DataName) (n : ℕ) (m : IsAmong d g.names) (r : d.role ≡ Dummy) (k : slice_get g.dummies n ≡ Some d.name) (t : Seen d n) → stands_after w after_names t.operand ≡ held_in d.dims after (cells_in d.name)
    dummy_after d n m r k t = known (is_smashed program j d.name) (λ s. smashed ((table j d.name).0 s)) (λ f. unsmashed (not_smashed d.name f))
      where
        v : IsVisible g d
        v = visible_dummy d m r

        is_actual : (e : Expr) → t.seat.actual ≡ e → slice_get c.site.actuals n ≡ Some e
        is_actual e q = ap (slice_get c.site.actuals) (sym t.at) ∙ (t.seat.is_actual ∙ ap Some q)

        smashed : Smashes program.units j d.name → stands_after w after_names t.operand ≡ held_in d.dims after (cells_in d.name)
        smashed h =
            let b = bare program.units i j c of_caller of_callee of_call env st placed copies xs fit d.name t.seat h in
            let o = bare_operand now b.name t.operand (subst (λ (z : Expr). IsOperandOf now z t.operand) b.is t.form) in
            let dims : dims_of c.caller b.name ≡ b.has.its.dims = ap dims_of_data (found program.units i c.caller of_caller b.has.its b.has.among b.name b.has.name) in
            let alike : AreAlike b.has.its.dims d.dims =
            subst (λ (ds : List Dim). AreAlike ds d.dims) dims (alike_back d.dims (dims_of c.caller b.name)
            (subst (λ (z : Expr). AreAlike d.dims (dims_of_actual c.caller z)) b.is (dims_alike g c.site.actuals d.dims (dims_of_actual c.caller t.seat.actual) t.dims))) in
            ap (stands_after w after_names) o.1
            ∙ (ap after_names (sym b.has.name)
            ∙ (left_named b.has.its b.has.among
            ∙ held_same b.has.its.dims d.dims left after (env b.has.its.name) (cells_in d.name) alike (one_cell program.units i j c of_caller of_callee of_call env st placed copies xs fit d v)
            (dummy_back program.units i j c of_caller of_callee of_call env st placed copies xs fit after long d v t.seat h)))

        same_operand : (o : Operand Value) → IsOperandOf now t.seat.actual o → (Smashes program.units j d.name → ⊥) → stands_after w after_names o ≡ stands_for o
        same_operand (Bare y z) form u = unhit_name y (unhit_actual n d.name y k u (is_actual (Var y) form.0)) ∙ sym form.1
        same_operand (Part z) form u = refl
        same_operand (Computed z) form u = refl

        unsmashed : (Smashes program.units j d.name → ⊥) → stands_after w after_names t.operand ≡ held_in d.dims after (cells_in d.name)
        unsmashed u = same_operand t.operand t.form u ∙ (sym t.held ∙ kept_held d v u)

    common_after : (d : DataName) → IsAmong d g.names → d.role ≡ InCommon → after_names d.name ≡ held_in d.dims after (cells_in d.name)
    common_after d m r = known (is_smashed program j d.name) (λ s. smashed ((table j d.name).0 s)) (λ f. unsmashed (not_smashed d.name f))
      where
        v : IsVisible g d
        v = visible_common d m r

        smashed : Smashes program.units j d.name → after_names d.name ≡ held_in d.dims after (cells_in d.name)
        smashed h =
            let s = shared_of d m r in
            ap after_names (sym s.name)
            ∙ (left_named s.its s.among
            ∙ held_same s.its.dims d.dims left after (env s.its.name) (cells_in d.name) (alike_same s.its.dims d.dims s.dims) (one_cell program.units i j c of_caller of_callee of_call env st placed copies xs fit d v)
            (shared_back program.units i j c of_caller of_callee of_call env st placed copies xs fit after long d v r s h))

        unsmashed : (Smashes program.units j d.name → ⊥) → after_names d.name ≡ held_in d.dims after (cells_in d.name)
        unsmashed u = unhit_name d.name (unhit_common d m r u) ∙ (entry_common d m r ∙ kept_held d v u)

    -- at the end names stand for what they hold
    pub after_seen : (x : Name) → seen_by w g (map (stands_after w after_names) os) after_names (new_names g.name) x ≡ names_hold g cells_in after value x
    after_seen = seen_is fs values program i c.caller program.units j g of_callee names (map (stands_after w after_names) os) after_names (new_names g.name) cells_in after value
        (λ d n m r k. let s = seen d n m r k in (stands_after w after_names s.operand, map_at (stands_after w after_names) os n s.operand s.is_operand, dummy_after d n m r k s)) common_after new_result nothing
