-- Names added one after the other, and what a call is told to smash.
use Rattle.std.proofs.Common.{◌≡◌, ℕ, suc, ◌+◌, ◌<◌, List, ◌∷◌, length, get_or, drop, drop-cons, Option, Some, slice_get, refl, sym, ap, ◌∙◌, arith}
use Rattle.std.specs.Prelude.{flat_map}
use Rattle.std.proofs.lemmas.Option.{slice_get_read}
use Rattle.formula.specs.Atoms.{is_among}
use Rattle.fort_syntax.specs.declared.expr.Expr.{Expr}
use Rattle.fort_syntax.specs.declared.name.Name.{Name}
use Rattle.fort_syntax.specs.declared.stmt.Stmt.{Stmt}
use Rattle.fort_syntax.specs.declared.unit.Unit.{Unit as Routine}
use Rattle.fort_model.specs.CallRules.{bare_names}
use Rattle.fort_model.specs.Calls.{CallSite, sites_of, callee_of}
use Rattle.fort_model.specs.Program.{Program, names_if_any, smashed_names}
use Rattle.fort_model.specs.Smashes.{set_by}
use Rattle.name_tables.specs.Sets.{with_names}
use Rattle.smash_laws.specs.Ordered.{with_table}
use Rattle.smash_sets.proofs.Passed.{more_of_both}
use Rattle.smash_table.specs.Smashed.{call_names, names_by, names_of_callee, shared_by, shared_row, shared_with, site_names, stmt_names}

-- what a call smashes whose unit has a number, or that is of no unit
pub site_is : (units : List Routine) (rows : List (List Name)) (u : Routine) (site : CallSite) (o : Option ℕ)
    → o ≡ callee_of units site → names_of_callee (with_table units rows) u site.actuals o ≡ site_names (with_table units rows) u site
site_is units rows u site o is = ap (names_of_callee (with_table units rows) u site.actuals) is

-- what the unit of a number shares, and what a call of it smashes
module _ (units : List Routine) (rows : List (List Name)) (u : Routine) (j : ℕ) (g : Routine) (row : List Name)
    (is_g : slice_get units j ≡ Some g) (inside : j < length rows) (is_row : row ≡ get_or rows j row) where
  row_at : smashed_names (with_table units rows) j ≡ row
  row_at = ap names_if_any (slice_get_read rows (length rows) j row refl inside is_row)

  shared_is : shared_by (with_table units rows) u j ≡ shared_row u g row
  shared_is = ap (λ (o : Option Routine). shared_with u (smashed_names (with_table units rows) j) o) is_g ∙ ap (shared_row u g) row_at

  -- the names that the callee smashes are gone through
  pub shared_added : (set after names : List Name) → after ≡ with_names set (shared_row u g names) → names ≡ row → after ≡ with_names set (shared_by (with_table units rows) u j)
  shared_added set after names is is_row =
      is ∙ (ap (λ (ns : List Name). with_names set (shared_row u g ns)) is_row ∙ sym (ap (with_names set) shared_is))

  call_is : (actuals : List Expr) → names_of_callee (with_table units rows) u actuals (Some j) ≡ call_names u g row actuals
  call_is actuals =
      ap (names_by u (smashed_names (with_table units rows) j) actuals) is_g ∙ ap (λ (smashed : List Name). call_names u g smashed actuals) row_at

  -- the bare actuals, and then what both share
  pub call_added : (set first ds : List Name) (actuals : List Expr) → first ≡ with_names set (bare_names (λ d. is_among d row) ds actuals) → ds ≡ g.dummies
      → with_names first (shared_by (with_table units rows) u j) ≡ with_names set (names_of_callee (with_table units rows) u actuals (Some j))
  call_added set first ds actuals is is_ds =
      ap (with_names first) shared_is
      ∙ (ap (λ (ns : List Name). with_names ns (shared_row u g row)) (is ∙ ap (λ (xs : List Name). with_names set (bare_names (λ d. is_among d row) xs actuals)) is_ds)
      ∙ (sym (more_of_both set (bare_names (λ d. is_among d row) g.dummies actuals) (shared_row u g row)) ∙ ap (with_names set) (sym (call_is actuals))))

-- the first of what is left of a list
pub first_left : {A : Type 0} (xs : List A) (n : ℕ) (a : A) → n < length xs → a ≡ get_or xs n a → drop n xs ≡ a ∷ drop (n + 1) xs
first_left {A = A} xs n a inside is = drop-cons xs n a inside ∙ (ap (λ (x : A). x ∷ drop (suc n) xs) (sym is) ∙ ap (λ (k : ℕ). a ∷ drop k xs) next)
  where
    next : suc n ≡ n + 1
    next = omega arith

-- what one of some things gives is added
pub given_more : {A : Type 0} (give : A → List Name) (set after whole : List Name) (xs : List A) (n : ℕ) (a : A)
    → n < length xs → a ≡ get_or xs n a → after ≡ with_names set (give a)
    → with_names set (flat_map give (drop n xs)) ≡ whole → with_names after (flat_map give (drop (n + 1) xs)) ≡ whole
given_more {A = A} give set after whole xs n a inside is added so_far =
    ap (λ (s : List Name). with_names s (flat_map give (drop (n + 1) xs))) added
    ∙ (sym (more_of_both set (give a) (flat_map give (drop (n + 1) xs))) ∙ (sym (ap (λ (ys : List A). with_names set (flat_map give ys)) (first_left xs n a inside is)) ∙ so_far))

-- a statement is seen to: what it sets, and then what its calls smash
pub stmt_added : (p : Program) (u : Routine) (set first : List Name) (s : Stmt) (sites : List CallSite) → first ≡ with_names set (set_by s) → sites ≡ sites_of u s
    → with_names first (flat_map (site_names p u) sites) ≡ with_names set (stmt_names p u s)
stmt_added p u set first s sites is is_sites =
    ap (λ (xs : List CallSite). with_names first (flat_map (site_names p u) xs)) is_sites
    ∙ (ap (λ (ns : List Name). with_names ns (flat_map (site_names p u) (sites_of u s))) is ∙ sym (more_of_both set (set_by s) (flat_map (site_names p u) (sites_of u s))))
