-- Whether a call of a unit that is there breaks a rule, by the row of that unit.
use Rattle.std.proofs.Common.{◌≡◌, ℕ, ◌<◌, Bool, false, not, ◌||◌, List, length, get_or, Option, Some, None, slice_get, refl, sym, ap, ◌∙◌}
use Rattle.std.proofs.lemmas.Option.{slice_get_read}
use Rattle.formula.specs.Atoms.{is_among}
use Rattle.fort_syntax.specs.WellFormed.{IsWellFormedUnit}
use Rattle.fort_syntax.specs.declared.dialect.Dialect.{Dialect}
use Rattle.fort_syntax.specs.declared.expr.Expr.{Expr}
use Rattle.fort_syntax.specs.declared.name.Name.{Name}
use Rattle.fort_syntax.specs.declared.unit.Unit.{Unit as Routine}
use Rattle.std.specs.List.{list_any}
use Rattle.fort_model.specs.Arguments.{mentions}
use Rattle.smash_table.specs.Smashed.{shared_in}
use Rattle.fort_model.specs.CallRules.{in_unit, of_unit, some_smashed, is_bare_name, bare_elsewhere, is_bare_common, passes_no_name, passes_twice, passes_common}
use Rattle.fort_model.specs.Calls.{CallSite, callee_of}
use Rattle.fort_model.specs.Program.{names_if_any}
use Rattle.smash_laws.specs.Ordered.{with_table}
use Rattle.smash_rules.specs.Judged.{is_no_name, is_twice, is_common}
use Rattle.smash_rules.specs.Shared.{meets_common}
use Rattle.smash_rules.proofs.Commons.{common_told}

pub nobody : (units : List Routine) (rows : List (List Name)) (site : CallSite) (test : ℕ → Routine → Bool) → callee_of units site ≡ None → false ≡ of_unit (with_table units rows) (callee_of units site) test
nobody units rows site test e = sym (ap (λ (o : Option ℕ). of_unit (with_table units rows) o test) e)

module _ (units : List Routine) (rows : List (List Name)) (site : CallSite) (j : ℕ) (g : Routine) (row : List Name)
    (is_j : callee_of units site ≡ Some j) (is_g : slice_get units j ≡ Some g) (inside : j < length rows) (is_row : row ≡ get_or rows j row) where
  at_callee : (test : ℕ → Routine → Bool) → of_unit (with_table units rows) (callee_of units site) test ≡ test j g
  at_callee test = ap (λ (o : Option ℕ). of_unit (with_table units rows) o test) is_j ∙ ap (λ (o : Option Routine). in_unit o (test j)) is_g

  row_at : Some row ≡ slice_get rows j
  row_at = sym (slice_get_read rows (length rows) j row refl inside is_row)

  pub no_name_told : (ds : List Name) (es : List Expr) → ds ≡ g.dummies → es ≡ site.actuals
      → some_smashed (λ d. is_among d row) (λ n e. not (is_bare_name e)) 0 ds es ≡ is_no_name (with_table units rows) site
  no_name_told ds es is_ds is_es =
      ap (λ (xs : List Name). some_smashed (λ d. is_among d row) (λ n e. not (is_bare_name e)) 0 xs es) is_ds
      ∙ (ap (λ (xs : List Expr). some_smashed (λ d. is_among d row) (λ n e. not (is_bare_name e)) 0 g.dummies xs) is_es
      ∙ (ap (λ (o : Option (List Name)). some_smashed (λ d. is_among d (names_if_any o)) (λ n e. not (is_bare_name e)) 0 g.dummies site.actuals) row_at
      ∙ sym (at_callee (passes_no_name (with_table units rows) site))))

  pub twice_told : (ds : List Name) (es : List Expr) → ds ≡ g.dummies → es ≡ site.actuals
      → some_smashed (λ d. is_among d row) (bare_elsewhere es) 0 ds es ≡ is_twice (with_table units rows) site
  twice_told ds es is_ds is_es =
      ap (λ (xs : List Name). some_smashed (λ d. is_among d row) (bare_elsewhere es) 0 xs es) is_ds
      ∙ (ap (λ (xs : List Expr). some_smashed (λ d. is_among d row) (bare_elsewhere xs) 0 g.dummies xs) is_es
      ∙ (ap (λ (o : Option (List Name)). some_smashed (λ d. is_among d (names_if_any o)) (bare_elsewhere site.actuals) 0 g.dummies site.actuals) row_at
      ∙ sym (at_callee (passes_twice (with_table units rows) site))))

  abbrev by_row : Routine → Option (List Name) → Bool
  by_row v o =
      list_any (λ (x : Name). list_any (λ (e : Expr). mentions e x) site.actuals) (shared_in v g (names_if_any o))
      || some_smashed (λ d. is_among d (names_if_any o)) (λ n e. is_bare_common v g e) 0 g.dummies site.actuals

  pub common_at_call : (dialect : Dialect) (u : Routine) → IsWellFormedUnit dialect u → (es : List Expr) → es ≡ site.actuals
      → meets_common u g row g.dummies es ≡ is_common (with_table units rows) u site
  common_at_call dialect u w es is_es =
      ap (λ (xs : List Expr). meets_common u g row g.dummies xs) is_es
      ∙ (ap (λ (b : Bool). b || some_smashed (λ d. is_among d row) (λ n e. is_bare_common u g e) 0 g.dummies site.actuals) (common_told dialect u w g row site.actuals)
      ∙ (ap (by_row u) row_at
      ∙ sym (at_callee (passes_common (with_table units rows) u site))))
