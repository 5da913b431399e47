-- The names that a unit is told to smash are those that it smashes.
use Rattle.std.proofs.Common.{◌≡◌, ℕ, suc, Bool, true, false, cond, ◌&&◌, ◌||◌, List, [], ◌∷◌, ◌++◌, map, Option, Some, None, slice_get, refl, sym, ap, ◌∙◌, subst}
use Rattle.std.specs.Prelude.{flat_map}
use Rattle.std.specs.List.{filter, list_any}
use Rattle.std.specs.Cmp.Lexicographic.{same_text}
use Rattle.formula.specs.Atoms.{is_among, has_twin, same_bytes}
use Rattle.fort_syntax.specs.Names.{has_common, commons, data_name, has_role, is_in_common}
use Rattle.fort_syntax.specs.WellFormed.{AreWellFormedUnits, IsWellFormedUnit, commons_of_unit}
use Rattle.fort_syntax.specs.declared.dialect.Dialect.{Dialect}
use Rattle.fort_syntax.specs.declared.name.Name.{Name}
use Rattle.fort_syntax.specs.declared.stmt.Stmt.{Stmt}
use Rattle.fort_syntax.specs.declared.unit.DataName.{DataName}
use Rattle.fort_syntax.specs.declared.unit.Role.{Role}
use Rattle.fort_syntax.specs.declared.unit.Role.TheVariants.{Dummy, InCommon, OwnValue, Local}
use Rattle.fort_syntax.specs.declared.unit.Line.{Line}
use Rattle.fort_syntax.specs.declared.unit.Unit.{Unit as Routine}
use Rattle.fort_model.specs.CallRules.{in_unit, of_unit, bare_names, smashed_at, stmt_smashes}
use Rattle.fort_model.specs.Calls.{CallSite, sites_of, callee_of}
use Rattle.fort_model.specs.Lists.{IsAmong}
use Rattle.fort_model.specs.Program.{Program, smashed_names}
use Rattle.fort_model.specs.Smashes.{set_by}
use Rattle.fort_laws.proofs.DeclaredDecks.{well_at}
use Rattle.fort_laws.proofs.DeclaredNames.{among_named, named_among, data_among, found_named}
use Rattle.fort_laws.proofs.DeclaredUnits.{no_twins, is_common, blocks_hold_commons, same_commons}
use Rattle.fort_laws.proofs.Near.{known}
use Rattle.fort_laws.proofs.RulesKept.{neither}
use Rattle.call_tests.proofs.Sets.{among_both, among_kept, among_more}
use Rattle.name_tables.specs.Sets.{with_names}
use Rattle.smash_laws.specs.Ordered.{unit_smashes, smashed_row, row_if_any, with_table}
use Rattle.smash_laws.proofs.Tests.{any_same, filter_same}
use Rattle.smash_table.specs.Smashed.{shared_in, shared_row, names_by, names_of_callee, site_names, stmt_names, unit_names}

-- among what some things give together
among_given : {A : Type 0} (give : A → List Name) (xs : List A) (x : Name) → is_among x (flat_map give xs) ≡ list_any (λ (a : A). is_among x (give a)) xs
among_given give [] x = refl
among_given give (a ∷ xs) x = among_both x (give a) (flat_map give xs) ∙ ap (λ (b : Bool). is_among x (give a) || b) (among_given give xs x)

-- ---- a caller that is well formed

same_truth : (a b : Bool) → (a ≡ true → b ≡ true) → (b ≡ true → a ≡ true) → a ≡ b
same_truth true b f g = sym (f refl)
same_truth false true f g = g refl
same_truth false false f g = refl

-- both lists of what is shared hold the same names
turned : (row common callee : Bool) → (row && (callee && common)) ≡ (common && (callee && row))
turned true common callee = by common callee
  where
    by : (a b : Bool) → (b && a) ≡ (a && (b && true))
    by true true = refl
    by true false = refl
    by false true = refl
    by false false = refl
turned false common callee = by common callee
  where
    by : (a b : Bool) → false ≡ (a && (b && false))
    by true true = refl
    by true false = refl
    by false b = refl

module _ (dialect : Dialect) (u : Routine) (w : IsWellFormedUnit dialect u) where
  -- the COMMON entities are the names that stand in blocks
  pub common_told : (x : Name) → is_among x (commons u) ≡ has_common u x
  common_told x = same_truth (is_among x (commons u)) (has_common u x)
      (λ t. blocks_hold_commons dialect u w x (named_among (commons u) x t))
      (λ t. by_data (data_name u x) refl t)
    where
      in_common : (r : Role) → is_in_common r ≡ true → r ≡ InCommon
      in_common Dummy t = absurd (cc)
      in_common InCommon t = refl
      in_common OwnValue t = absurd (cc)
      in_common Local t = absurd (cc)

      by_data : (o : Option DataName) → data_name u x ≡ o → has_role is_in_common o ≡ true → is_among x (commons u) ≡ true
      by_data None e t = absurd (cc)
      by_data (Some d) e t =
          subst (λ (xs : List Name). is_among x xs ≡ true) (same_commons u)
          (subst (λ (z : Name). is_among z (commons_of_unit u) ≡ true) (found_named u.names x d e) (is_common dialect u w d (data_among u.names x d e) (in_common d.role t)))

  pub shared_told : (g : Routine) (row : List Name) (x : Name) → is_among x (shared_row u g row) ≡ is_among x (shared_in u g row)
  shared_told g row x =
      among_kept (λ y. has_common g y && has_common u y) x row
      ∙ (turned (is_among x row) (has_common u x) (has_common g x)
      ∙ (ap (λ (b : Bool). b && (has_common g x && is_among x row)) (sym (common_told x))
      ∙ sym (among_kept (λ y. has_common g y && is_among y row) x (commons u))))

  site_told : (p : Program) (x : Name) (site : CallSite) → is_among x (site_names p u site) ≡ of_unit p (callee_of p.units site) (smashed_at p u site x)
  site_told p x site = by_callee (callee_of p.units site)
    where
      by_unit : (j : ℕ) (o : Option Routine) → is_among x (names_by u (smashed_names p j) site.actuals o) ≡ in_unit o (smashed_at p u site x j)
      by_unit j None = refl
      by_unit j (Some g) =
          among_both x (bare_names (λ d. is_among d (smashed_names p j)) g.dummies site.actuals) (shared_row u g (smashed_names p j))
          ∙ ap (λ (b : Bool). is_among x (bare_names (λ d. is_among d (smashed_names p j)) g.dummies site.actuals) || b) (shared_told g (smashed_names p j) x)

      by_callee : (o : Option ℕ) → is_among x (names_of_callee p u site.actuals o) ≡ of_unit p o (smashed_at p u site x)
      by_callee None = refl
      by_callee (Some j) = by_unit j (slice_get p.units j)

  -- a statement smashes the names that it is told to smash
  pub stmt_told : (p : Program) (s : Stmt) (x : Name) → is_among x (stmt_names p u s) ≡ stmt_smashes p u s x
  stmt_told p s x =
      among_both x (set_by s) (flat_map (site_names p u) (sites_of u s))
      ∙ ap (λ (b : Bool). is_among x (set_by s) || b)
      (among_given (site_names p u) (sites_of u s) x
      ∙ any_same (λ (site : CallSite). is_among x (site_names p u site)) (λ (site : CallSite). of_unit p (callee_of p.units site) (smashed_at p u site x)) (sites_of u s)
      (λ site k. site_told p x site))

  unit_told : (p : Program) (x : Name) → is_among x (unit_names p u) ≡ unit_smashes p u x
  unit_told p x =
      among_given (λ (line : Line). stmt_names p u line.stmt) u.lines x
      ∙ any_same (λ (line : Line). is_among x (stmt_names p u line.stmt)) (λ (line : Line). stmt_smashes p u line.stmt x) u.lines
      (λ line m. stmt_told p line.stmt x)

-- ---- names that stand once

apart : (ys xs : List Name) → has_twin xs ≡ false → ((x : Name) → IsAmong x xs → is_among x ys ≡ false) → with_names ys xs ≡ ys ++ xs
apart ys [] h none = sym (nothing ys)
  where
    nothing : (zs : List Name) → zs ++ [] ≡ zs
    nothing [] = refl
    nothing (z ∷ zs) = ap (λ (r : List Name). z ∷ r) (nothing zs)
apart ys (x ∷ xs) h none =
    ap (λ (b : Bool). with_names (cond b ys (ys ++ x ∷ [])) xs) (none x (0, refl))
    ∙ (apart (ys ++ x ∷ []) xs once.1 (λ z m. among_both z ys (x ∷ []) ∙ (ap (λ (b : Bool). b || (same_bytes z x || false)) (none z (suc m.0, m.1)) ∙ other z m))
    ∙ joined ys)
  where
    once : (is_among x xs ≡ false) × (has_twin xs ≡ false)
    once = neither (is_among x xs) (has_twin xs) h

    other : (z : Name) → IsAmong z xs → (same_bytes z x || false) ≡ false
    other z m = known (same_bytes z x)
        (λ t. absurd (clash (sym (among_named xs z m) ∙ (ap (λ (y : Name). is_among y xs) (same_text z x (sym t)) ∙ once.0))))
        (λ f. ap (λ (b : Bool). b || false) f)
      where
        clash : true ≡ false → ⊥
        clash e = cc

    joined : (zs : List Name) → (zs ++ x ∷ []) ++ xs ≡ zs ++ (x ∷ xs)
    joined [] = refl
    joined (z ∷ zs) = ap (λ (r : List Name). z ∷ r) (joined zs)

kept_once : (test : Name → Bool) (xs : List Name) → has_twin xs ≡ false → has_twin (filter test xs) ≡ false
kept_once test [] h = refl
kept_once test (x ∷ xs) h = by_test (test x) (kept_once test xs once.1)
  where
    once : (is_among x xs ≡ false) × (has_twin xs ≡ false)
    once = neither (is_among x xs) (has_twin xs) h

    gone : is_among x (filter test xs) ≡ false
    gone = among_kept test x xs ∙ ap (λ (b : Bool). b && test x) once.0

    by_test : (b : Bool) → has_twin (filter test xs) ≡ false → has_twin (cond b (x ∷ filter test xs) (filter test xs)) ≡ false
    by_test true rec = ap (λ (b : Bool). b || has_twin (filter test xs)) gone ∙ rec
    by_test false rec = rec

-- ---- rows

-- the data names of a unit that are told to be smashed are its row
pub row_told : (dialect : Dialect) (units : List Routine) (rows : List (List Name)) (j : ℕ) (u : Routine) (set row : List Name)
    → AreWellFormedUnits dialect units → slice_get units j ≡ Some u → set ≡ with_names [] (unit_names (with_table units rows) u)
    → row ≡ with_names [] (filter (λ x. is_among x set) (map (λ d. d.name) u.names)) → row ≡ row_if_any (with_table units rows) (slice_get units j)
row_told dialect units rows j u set row well is told made =
    made ∙ (ap (with_names []) (filter_same (λ x. is_among x set) (unit_smashes (with_table units rows) u) (map (λ d. d.name) u.names) (λ x m. one x))
    ∙ (apart [] (smashed_row (with_table units rows) u) (kept_once (unit_smashes (with_table units rows) u) (map (λ d. d.name) u.names) (no_twins dialect u (well_at dialect units j u well is))) (λ x m. refl)
    ∙ sym (ap (row_if_any (with_table units rows)) is)))
  where
    one : (x : Name) → is_among x set ≡ unit_smashes (with_table units rows) u x
    one x = ap (is_among x) told ∙ (among_more x [] (unit_names (with_table units rows) u) ∙ unit_told dialect u (well_at dialect units j u well is) (with_table units rows) x)
