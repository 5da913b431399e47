-- A table whose rows are right by itself, in an order of calls, holds just what is smashed.
use Rattle.std.proofs.Common.{◌≡◌, ℕ, zero, suc, ◌⊎◌, inl, inr, Bool, true, false, ◌&&◌, ◌||◌, List, [], ◌∷◌, map, Option, Some, None, slice_get, refl, sym, ap, ◌∙◌, subst}
use Rattle.std.specs.List.{list_any}
use Rattle.formula.specs.Atoms.{is_among}
use Rattle.fort_syntax.specs.Names.{has_common, commons, data_name, has_role, is_in_common}
use Rattle.fort_syntax.specs.WellFormed.{IsWellFormedUnit, names_of_unit, commons_of_unit}
use Rattle.fort_syntax.specs.declared.dialect.Dialect.{Dialect}
use Rattle.fort_syntax.specs.declared.expr.Expr.{Expr}
use Rattle.fort_syntax.specs.declared.expr.Expr.TheVariants.{Const, Truth, Var, Apply', Paren', Pos', Neg', Power', Bin', Rel', Not', And', Or'}
use Rattle.fort_syntax.specs.declared.name.Name.{Name}
use Rattle.fort_syntax.specs.declared.unit.DataName.{DataName}
use Rattle.fort_syntax.specs.declared.unit.Line.{Line}
use Rattle.fort_syntax.specs.declared.unit.Role.{Role}
use Rattle.fort_syntax.specs.declared.unit.Role.TheVariants.{Dummy, InCommon, OwnValue, Local}
use Rattle.fort_syntax.specs.declared.unit.Unit.{Unit as Routine}
use Rattle.fort_model.specs.CallOrder.{Grows, start, next}
use Rattle.fort_model.specs.CallRules.{in_unit, of_unit, bare_name, bare_names, smashed_at, smashed_commons}
use Rattle.fort_model.specs.Calls.{CallSite, Calls, sites_of, callee_of}
use Rattle.fort_model.specs.Lists.{IsAmong}
use Rattle.fort_model.specs.Program.{Program, names_if_any, is_smashed}
use Rattle.fort_model.specs.Smashes.{Smashes, sets, passes, shares, set_by}
use Rattle.fort_laws.proofs.DeclaredNames.{among_named, named_among, has_own_name, data_among, found_named}
use Rattle.fort_laws.proofs.DeclaredUnits.{is_common, blocks_hold_commons, same_commons}
use Rattle.fort_laws.proofs.DeclaredUses.{right_line, set_data, pass_data}
use Rattle.fort_laws.proofs.Kept.{among_left, among_right}
use Rattle.fort_laws.proofs.References.{among_either}
use Rattle.fort_laws.proofs.RulesKept.{passes_filter}
use Rattle.fort_laws.proofs.Small.{both_hold, both_parts, filter_passes, some_passes}
use Rattle.smash_laws.specs.Ordered.{with_table, unit_smashes, smashed_row}
use Rattle.smash_laws.proofs.Growing.{AreRight}
use Rattle.smash_laws.proofs.Tests.{any_passes, either, left_holds, right_holds}

-- ---- the names that smashed dummies get

pub record Gets (smashed : Name → Bool) (ds : List Name) (es : List Expr) (x : Name) : Type 0 where
  pub place : ℕ
  pub dummy : Name
  pub at_dummy : slice_get ds place ≡ Some dummy
  pub at_actual : slice_get es place ≡ Some (Var x)
  pub is_smashed : smashed dummy ≡ true

bare_is : (t : Bool) (e : Expr) (x : Name) → IsAmong x (bare_name t e) → (t ≡ true) × (e ≡ Var x)
bare_is true (Var y) x (zero, e) = let q : y ≡ x = cc in (refl, ap Var q)
bare_is true (Var y) x (suc k, e) = absurd (cc)
bare_is false e x m = absurd (cc)
bare_is true (Const n) x m = absurd (cc)
bare_is true (Truth b) x m = absurd (cc)
bare_is true (Apply' f shape args) x m = absurd (cc)
bare_is true (Paren' shape a) x m = absurd (cc)
bare_is true (Pos' shape a) x m = absurd (cc)
bare_is true (Neg' shape a) x m = absurd (cc)
bare_is true (Power' shape a n) x m = absurd (cc)
bare_is true (Bin' o q a r b) x m = absurd (cc)
bare_is true (Rel' o q a r b) x m = absurd (cc)
bare_is true (Not' shape a) x m = absurd (cc)
bare_is true (And' q a r b) x m = absurd (cc)
bare_is true (Or' q a r b) x m = absurd (cc)

gets : (smashed : Name → Bool) (ds : List Name) (es : List Expr) (x : Name) → IsAmong x (bare_names smashed ds es) → Gets smashed ds es x
gets smashed [] es x m = absurd (cc)
gets smashed (d ∷ ds) [] x m = absurd (cc)
gets smashed (d ∷ ds) (e ∷ es) x m = by_part (among_either x (bare_name (smashed d) e) (bare_names smashed ds es) m) (gets smashed ds es x)
  where
    by_part : IsAmong x (bare_name (smashed d) e) ⊎ IsAmong x (bare_names smashed ds es) → (IsAmong x (bare_names smashed ds es) → Gets smashed ds es x) → Gets smashed (d ∷ ds) (e ∷ es) x
    by_part (inl a) rec = let b = bare_is (smashed d) e x a in record { place = 0; dummy = d; at_dummy = refl; at_actual = ap Some b.1; is_smashed = b.0 }
    by_part (inr a) rec = let r = rec a in record { place = suc r.place; dummy = r.dummy; at_dummy = r.at_dummy; at_actual = r.at_actual; is_smashed = r.is_smashed }

got : (smashed : Name → Bool) (ds : List Name) (es : List Expr) (n : ℕ) (d x : Name) → slice_get ds n ≡ Some d → slice_get es n ≡ Some (Var x) → smashed d ≡ true → IsAmong x (bare_names smashed ds es)
got smashed [] es n d x a b t = absurd (cc)
got smashed (c ∷ ds) [] n d x a b t = absurd (cc)
got smashed (c ∷ ds) (e ∷ es) zero d x a b t =
    let q : c ≡ d = cc in
    let r : e ≡ Var x = cc in
    let one : bare_name (smashed c) e ≡ x ∷ [] = ap (λ (z : Name). bare_name (smashed z) e) q ∙ (ap (λ (z : Bool). bare_name z e) t ∙ ap (bare_name true) r) in
    among_left x (bare_name (smashed c) e) (bare_names smashed ds es) (subst (IsAmong x) (sym one) (0, refl))
got smashed (c ∷ ds) (e ∷ es) (suc n) d x a b t = among_right x (bare_name (smashed c) e) (bare_names smashed ds es) (got smashed ds es n d x a b t)

-- ---- COMMON entities

module _ (dialect : Dialect) (u : Routine) (w : IsWellFormedUnit dialect u) where
  -- a COMMON entity stands in a block, and is a data name
  common_stands : (x : Name) → has_common u x ≡ true → IsAmong x (commons u) × IsAmong x (names_of_unit u)
  common_stands x h = by_data (data_name u x) refl h
    where
      by_role : (r : Role) → is_in_common r ≡ true → r ≡ InCommon
      by_role Dummy t = absurd (cc)
      by_role InCommon t = refl
      by_role OwnValue t = absurd (cc)
      by_role Local t = absurd (cc)

      by_data : (o : Option DataName) → data_name u x ≡ o → has_role is_in_common o ≡ true → IsAmong x (commons u) × IsAmong x (names_of_unit u)
      by_data None e t = absurd (cc)
      by_data (Some d) e t =
          let m = data_among u.names x d e in
          let q = found_named u.names x d e in
          let c = is_common dialect u w d m (by_role d.role t) in (
            subst (λ (xs : List Name). IsAmong x xs) (same_commons u) (named_among (commons_of_unit u) x (subst (λ (z : Name). is_among z (commons_of_unit u) ≡ true) q c)),
            named_among (names_of_unit u) x (subst (λ (z : Name). is_among z (names_of_unit u) ≡ true) q (has_own_name u.names d m)),
          )

-- ---- the table

module _ (units : List Routine) (order : List ℕ) (table : List (List Name)) (right : AreRight units order table) (whole : (i : ℕ) (u : Routine) → slice_get units i ≡ Some u → IsAmong i order)
    (dialect : Dialect) (well : (i : ℕ) (u : Routine) → slice_get units i ≡ Some u → IsWellFormedUnit dialect u) where
  abbrev p : Program
  p = with_table units table

  row_is : (i : ℕ) (u : Routine) → slice_get units i ≡ Some u → (x : Name) → is_smashed p i x ≡ is_among x (smashed_row p u)
  row_is i u is x = ap (λ (o : Option (List Name)). is_among x (names_if_any o)) (right.rows i u (whole i u is) is)

  -- a data name that a unit smashes, by the table, is in the table
  enters : (i : ℕ) (u : Routine) → slice_get units i ≡ Some u → (x : Name) → IsAmong x (names_of_unit u) → unit_smashes p u x ≡ true → is_smashed p i x ≡ true
  enters i u is x m t = row_is i u is x ∙ among_named (smashed_row p u) x (passes_filter (unit_smashes p u) (map (λ d. d.name) u.names) x m t)

  -- by a call
  call_enters : (i j : ℕ) (c : Calls units i j) (x : Name) → IsAmong x (names_of_unit c.caller) → smashed_at p c.caller c.site x j c.callee ≡ true → is_smashed p i x ≡ true
  call_enters i j c x m t =
      let test : CallSite → Bool = λ site. of_unit p (callee_of units site) (smashed_at p c.caller site x) in
      let one : test c.site ≡ true =
      ap (λ (o : Option ℕ). of_unit p o (smashed_at p c.caller c.site x)) c.is_of ∙ (ap (λ (o : Option Routine). in_unit o (smashed_at p c.caller c.site x j)) c.is_callee ∙ t) in
      enters i c.caller c.is_caller x m
      (any_passes (λ line. is_among x (set_by line.stmt) || list_any test (sites_of c.caller line.stmt)) c.caller.lines c.line c.is_line
      (right_holds (is_among x (set_by c.line.stmt)) (list_any test (sites_of c.caller c.line.stmt)) (any_passes test (sites_of c.caller c.line.stmt) c.site c.is_site one)))

  pub smashed_is_held : (i : ℕ) (x : Name) → Smashes units i x → is_smashed p i x ≡ true
  smashed_is_held i x (sets u line is m k) =
      let line_is = right_line dialect u (well i u is) line m in
      let test : CallSite → Bool = λ site. of_unit p (callee_of units site) (smashed_at p u site x) in
      enters i u is x (named_among (names_of_unit u) x (set_data u line.stmt x line_is.uses k))
      (any_passes (λ (l : Line). is_among x (set_by l.stmt) || list_any test (sites_of u l.stmt)) u.lines line m
      (left_holds (is_among x (set_by line.stmt)) (list_any test (sites_of u line.stmt)) (among_named (set_by line.stmt) x k)))
  smashed_is_held i x (passes {j = j} {d = d} c n at_dummy at_actual s) =
      let line_is = right_line dialect c.caller (well i c.caller c.is_caller) c.line c.is_line in
      call_enters i j c x (named_among (names_of_unit c.caller) x (pass_data c.caller c.line.stmt line_is.form line_is.uses c.site c.is_site n x at_actual))
      (left_holds (is_among x (bare_names (is_smashed p j) c.callee.dummies c.site.actuals)) (is_among x (smashed_commons p c.caller j c.callee))
      (among_named (bare_names (is_smashed p j) c.callee.dummies c.site.actuals) x (got (is_smashed p j) c.callee.dummies c.site.actuals n d x at_dummy at_actual (smashed_is_held j d s))))
  smashed_is_held i x (shares {j = j} c mine its s) =
      let stands = common_stands dialect c.caller (well i c.caller c.is_caller) x mine in
      call_enters i j c x stands.1
      (right_holds (is_among x (bare_names (is_smashed p j) c.callee.dummies c.site.actuals)) (is_among x (smashed_commons p c.caller j c.callee))
      (among_named (smashed_commons p c.caller j c.callee) x
      (passes_filter (λ y. has_common c.callee y && is_smashed p j y) (commons c.caller) x stands.0 (both_hold (has_common c.callee x) (is_smashed p j x) its (smashed_is_held j x s)))))

  -- ---- each name of the table is smashed

  -- what the units that stand in front smash
  abbrev AreSmashed : List ℕ → Type 0
  AreSmashed done = (j : ℕ) (x : Name) → IsAmong j done → is_smashed p j x ≡ true → Smashes units j x

  call_smashes : (done : List ℕ) → AreSmashed done → (i j : ℕ) (c : Calls units i j) → IsAmong j done → (x : Name) → smashed_at p c.caller c.site x j c.callee ≡ true → Smashes units i x
  call_smashes done before i j c m x t = by_part (either (is_among x (bare_names (is_smashed p j) c.callee.dummies c.site.actuals)) (is_among x (smashed_commons p c.caller j c.callee)) t)
    where
      by_part : (is_among x (bare_names (is_smashed p j) c.callee.dummies c.site.actuals) ≡ true) ⊎ (is_among x (smashed_commons p c.caller j c.callee) ≡ true) → Smashes units i x
      by_part (inl a) =
          let g = gets (is_smashed p j) c.callee.dummies c.site.actuals x (named_among (bare_names (is_smashed p j) c.callee.dummies c.site.actuals) x a) in
          passes c g.place g.at_dummy g.at_actual (before j g.dummy m g.is_smashed)
      by_part (inr a) =
          let f = filter_passes (λ y. has_common c.callee y && is_smashed p j y) (commons c.caller) x (named_among (smashed_commons p c.caller j c.callee) x a) in
          let b = both_parts (has_common c.callee x) (is_smashed p j x) f.1 in
          shares c (blocks_hold_commons dialect c.caller (well i c.caller c.is_caller) x f.0) b.0 (before j x m b.1)

  line_smashes : (done : List ℕ) → AreSmashed done → (i : ℕ) → ((j : ℕ) → Calls units i j → IsAmong j done) → (u : Routine) → slice_get units i ≡ Some u → (line : Line) → IsAmong line u.lines → (x : Name)
      → (is_among x (set_by line.stmt) || list_any (λ site. of_unit p (callee_of units site) (smashed_at p u site x)) (sites_of u line.stmt)) ≡ true → Smashes units i x
  line_smashes done before i below u is line m x t =
      by_part (either (is_among x (set_by line.stmt)) (list_any (λ site. of_unit p (callee_of units site) (smashed_at p u site x)) (sites_of u line.stmt)) t)
    where
      by_site : (site : CallSite) → IsAmong site (sites_of u line.stmt) → (o : Option ℕ) → callee_of units site ≡ o → of_unit p o (smashed_at p u site x) ≡ true → Smashes units i x
      by_site site k None e h = absurd (cc)
      by_site site k (Some j) e h = by_unit (slice_get units j) refl h
        where
          by_unit : (o : Option Routine) → slice_get units j ≡ o → in_unit o (smashed_at p u site x j) ≡ true → Smashes units i x
          by_unit None f h = absurd (cc)
          by_unit (Some g) f h =
              let c : Calls units i j = record { caller = u; callee = g; is_caller = is; is_callee = f; line = line; is_line = m; site = site; is_site = k; is_of = e } in
              call_smashes done before i j c (below j c) x h

      by_part : (is_among x (set_by line.stmt) ≡ true) ⊎ (list_any (λ site. of_unit p (callee_of units site) (smashed_at p u site x)) (sites_of u line.stmt) ≡ true) → Smashes units i x
      by_part (inl a) = sets u line is m (named_among (set_by line.stmt) x a)
      by_part (inr a) =
          let s = some_passes (λ site. of_unit p (callee_of units site) (smashed_at p u site x)) (sites_of u line.stmt) a in
          by_site s.0 s.1 (callee_of units s.0) refl s.2

  unit_smashes_it : (done : List ℕ) → AreSmashed done → (i : ℕ) → ((j : ℕ) → Calls units i j → IsAmong j done) → (x : Name) → (o : Option Routine) → slice_get units i ≡ o → is_smashed p i x ≡ true
      → (slice_get units i ≡ None → Smashes units i x) → Smashes units i x
  unit_smashes_it done before i below x None is t nobody = nobody is
  unit_smashes_it done before i below x (Some u) is t nobody =
      let kept = filter_passes (unit_smashes p u) (map (λ d. d.name) u.names) x (named_among (smashed_row p u) x (sym (row_is i u is x) ∙ t)) in
      let line = some_passes (λ line. is_among x (set_by line.stmt) || list_any (λ site. of_unit p (callee_of units site) (smashed_at p u site x)) (sites_of u line.stmt)) u.lines kept.1 in
      line_smashes done before i below u is line.0 line.1 x line.2

  pub grown_smashes : (no_more : (i : ℕ) (x : Name) → slice_get units i ≡ None → is_smashed p i x ≡ true → Smashes units i x) → (done : List ℕ) → Grows units done → AreSmashed done
  grown_smashes no_more [] start j x m t = absurd (cc)
  grown_smashes no_more (i ∷ done) (next g stand least) j x (zero, e) t =
      let q : j ≡ i = cc in
      let rec = grown_smashes no_more done g in
      unit_smashes_it done rec j (λ k c. stand.behind k (subst (λ (n : ℕ). Calls units n k) q c)) x (slice_get units j) refl t (λ none. no_more j x none t)
  grown_smashes no_more (i ∷ done) (next g stand least) j x (suc n, e) t = grown_smashes no_more done g j x (n, e) t
