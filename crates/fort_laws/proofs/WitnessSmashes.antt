-- A table of smashed names is right where what statements set and calls smash is in it, and each name of it is smashed.
use Rattle.std.proofs.Common.{◌≡◌, ℕ, zero, suc, Bool, true, false, cond, not, ◌&&◌, List, [], ◌∷◌, ◌++◌, Option, Some, None, slice_get, refl, sym, ap, ◌∙◌, subst}
use Rattle.std.specs.Cmp.Lexicographic.{same_text}
use Rattle.std.specs.List.{list_all, list_any}
use Rattle.formula.specs.Atoms.{same_bytes}
use Rattle.fort_syntax.specs.Names.{data_name_in, has_role, is_in_common}
use Rattle.fort_syntax.specs.declared.expr.Expr.{Expr}
use Rattle.fort_syntax.specs.declared.expr.Expr.TheVariants.{Var}
use Rattle.fort_syntax.specs.declared.name.Name.{Name}
use Rattle.fort_syntax.specs.declared.unit.DataName.{DataName}
use Rattle.fort_syntax.specs.declared.unit.Line.{Line}
use Rattle.fort_syntax.specs.declared.unit.Unit.{Unit as Routine}
use Rattle.fort_model.specs.CallRules.{in_unit, of_unit, bare_name, bare_names}
use Rattle.fort_model.specs.Calls.{CallSite, Calls, callee_of, sites_of}
use Rattle.fort_model.specs.Program.{Program, names_if_any, is_smashed}
use Rattle.fort_model.specs.Smashes.{Smashes, sets, passes, shares, HoldsSmashed, set_by}
use Rattle.fort_laws.proofs.Near.{known}
use Rattle.fort_laws.proofs.Small.{both_parts, some_passes}
use Rattle.fort_laws.proofs.WitnessLists.{AtEach, at_each, all_pass}

-- no COMMON entity is among some data names
abbrev is_no_common : DataName → Bool
is_no_common d = not (is_in_common d.role)

no_common : (ds : List DataName) (x : Name) → list_all is_no_common ds ≡ true → has_role is_in_common (data_name_in ds x) ≡ true → ⊥
no_common [] x h e = absurd (cc)
no_common (d ∷ ds) x h e =
    let b = both_parts (is_no_common d) (list_all is_no_common ds) h in
    known (same_bytes d.name x)
    (λ t. clash (is_in_common d.role) b.0 (sym (ap (λ (z : Bool). has_role is_in_common (cond z (Some d) (data_name_in ds x))) t) ∙ e))
    (λ f. no_common ds x b.1 (sym (ap (λ (z : Bool). has_role is_in_common (cond z (Some d) (data_name_in ds x))) f) ∙ e))
  where
    clash : (t : Bool) → not t ≡ true → t ≡ true → ⊥
    clash true n y = absurd (cc)
    clash false n y = absurd (cc)

module _ (p : Program) where
  -- a called unit smashes no name of the caller that the table has not
  abbrev call_is_held : ℕ → CallSite → Bool
  call_is_held i site =
      of_unit p (callee_of p.units site) (λ j g. list_all (is_smashed p i) (bare_names (is_smashed p j) g.dummies site.actuals))

  abbrev line_is_held : ℕ → Routine → Line → Bool
  line_is_held i u line = list_all (is_smashed p i) (set_by line.stmt) && list_all (call_is_held i) (sites_of u line.stmt)

  abbrev pub unit_is_held : ℕ → Routine → Bool
  unit_is_held i u = list_all (line_is_held i u) u.lines && list_all is_no_common u.names

  -- a bare name that a smashed dummy gets
  bare_held : (its mine : Name → Bool) (ds : List Name) (es : List Expr) → list_all mine (bare_names its ds es) ≡ true
      → (n : ℕ) (d x : Name) → slice_get ds n ≡ Some d → slice_get es n ≡ Some (Var x) → its d ≡ true → mine x ≡ true
  bare_held its mine [] es h n d x a b t = absurd (cc)
  bare_held its mine (c ∷ ds) [] h n d x a b t = absurd (cc)
  bare_held its mine (c ∷ ds) (e ∷ es) h zero d x a b t =
      let q : c ≡ d = cc in
      let r : e ≡ Var x = cc in
      let its_name : bare_name (its c) e ≡ x ∷ [] = ap (λ (z : Name). bare_name (its z) e) q ∙ ap (λ (z : Bool). bare_name z e) t ∙ ap (bare_name true) r in
      (both_parts (mine x) (list_all mine (bare_names its ds es)) (sym (ap (λ (zs : List Name). list_all mine (zs ++ bare_names its ds es)) its_name) ∙ h)).0
  bare_held its mine (c ∷ ds) (e ∷ es) h (suc n) d x a b t = bare_held its mine ds es (rest (bare_name (its c) e) h) n d x a b t
    where
      rest : (xs : List Name) → list_all mine (xs ++ bare_names its ds es) ≡ true → list_all mine (bare_names its ds es) ≡ true
      rest [] k = k
      rest (y ∷ xs) k = rest xs (both_parts (mine y) (list_all mine (xs ++ bare_names its ds es)) k).1

  module _ (held : AtEach p.units (λ i u. unit_is_held i u ≡ true)) where
    unit_parts : (i : ℕ) (u : Routine) → slice_get p.units i ≡ Some u → (list_all (line_is_held i u) u.lines ≡ true) × (list_all is_no_common u.names ≡ true)
    unit_parts i u is = both_parts (list_all (line_is_held i u) u.lines) (list_all is_no_common u.names) (at_each p.units (λ i u. unit_is_held i u ≡ true) held i u is)

    line_parts : (i : ℕ) (u : Routine) → slice_get p.units i ≡ Some u → (k : ℕ) (line : Line) → slice_get u.lines k ≡ Some line
        → (list_all (is_smashed p i) (set_by line.stmt) ≡ true) × (list_all (call_is_held i) (sites_of u line.stmt) ≡ true)
    line_parts i u is k line e =
        both_parts (list_all (is_smashed p i) (set_by line.stmt)) (list_all (call_is_held i) (sites_of u line.stmt)) (all_pass (line_is_held i u) u.lines (unit_parts i u is).0 k line e)

    call_held : {i j : ℕ} (c : Calls p.units i j) → list_all (is_smashed p i) (bare_names (is_smashed p j) c.callee.dummies c.site.actuals) ≡ true
    call_held {i = i} {j = j} c =
        let h = all_pass (call_is_held i) (sites_of c.caller c.line.stmt) (line_parts i c.caller c.is_caller c.is_line.0 c.line c.is_line.1).1 c.is_site.0 c.site c.is_site.1 in
        let test : ℕ → Routine → Bool = λ j g. list_all (is_smashed p i) (bare_names (is_smashed p j) g.dummies c.site.actuals) in
        sym (ap (λ (o : Option ℕ). of_unit p o test) c.is_of ∙ ap (λ (o : Option Routine). in_unit o (test j)) c.is_callee) ∙ h

    in_table : (i : ℕ) (x : Name) → Smashes p.units i x → is_smashed p i x ≡ true
    in_table i x (sets u line is m k) = all_pass (is_smashed p i) (set_by line.stmt) (line_parts i u is m.0 line m.1).0 k.0 x k.1
    in_table i x (passes {j = j} {d = d} c n at_dummy at_actual s) =
        bare_held (is_smashed p j) (is_smashed p i) c.callee.dummies c.site.actuals (call_held c) n d x at_dummy at_actual (in_table j d s)
    in_table i x (shares c mine its s) = absurd (no_common c.caller.names x (unit_parts i c.caller c.is_caller).1 mine)

    -- the names of the table are smashed
    pub table_is_right : AtEach p.smashes (λ i xs. AtEach xs (λ k x. Smashes p.units i x)) → HoldsSmashed p
    table_is_right named i x = (λ t. by_names (slice_get p.smashes i) refl t, in_table i x)
      where
        by_names : (o : Option (List Name)) → slice_get p.smashes i ≡ o → list_any (same_bytes x) (names_if_any o) ≡ true → Smashes p.units i x
        by_names None e h = absurd (cc)
        by_names (Some xs) e h =
            let s = some_passes (same_bytes x) xs h in
            let its = at_each xs (λ k y. Smashes p.units i y) (at_each p.smashes (λ i xs. AtEach xs (λ k y. Smashes p.units i y)) named i xs e) s.1.0 s.0 s.1.1 in
            subst (λ (y : Name). Smashes p.units i y) (sym (same_text x s.0 (sym s.2))) its
