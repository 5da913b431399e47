-- Some name of a list passes a test, one part of the list after the other.
use Rattle.std.proofs.Common.{◌≡◌, ℕ, suc, ◌+◌, ◌<◌, Bool, false, cond, ◌||◌, List, ◌∷◌, length, drop, drop-cons, get_or, Option, Some, slice_get, refl, sym, ap, ◌∙◌, arith}
use Rattle.std.specs.List.{list_any}
use Rattle.std.proofs.lemmas.List.Folds.{list_any-append}
use Rattle.formula.specs.Atoms.{is_among}
use Rattle.fort_syntax.specs.declared.expr.Expr.{Expr}
use Rattle.fort_syntax.specs.declared.name.Name.{Name}
use Rattle.fort_syntax.specs.declared.refusal.Fault.{Fault}
use Rattle.fort_syntax.specs.declared.rule.Rule.{Rule}
use Rattle.fort_syntax.specs.declared.stmt.Stmt.{Stmt}
use Rattle.fort_syntax.specs.declared.unit.Line.{Line}
use Rattle.fort_syntax.specs.declared.unit.Unit.{Unit as Routine}
use Rattle.fort_model.specs.CallRules.{bare_names}
use Rattle.fort_model.specs.Program.{Program}
use Rattle.fort_model.specs.Rules.{breaks_do}
use Rattle.smash_laws.specs.Ordered.{with_table}
use Rattle.smash_table.specs.Smashed.{names_by, names_of_callee, shared_by, shared_row, shared_with}
use Rattle.unit_faults.specs.Sooner.{first_at, fault_at}
use Rattle.do_smashes.specs.Hits.{row_of}
use Rattle.do_smashes.proofs.Keeping.{read_in}

-- the first of what is left of a list
first_left : {A : Type 0} (xs : List A) (n : ℕ) (a : A) → n < length xs → a ≡ get_or xs n a → drop n xs ≡ a ∷ drop (n + 1) xs
first_left {A = A} xs n a inside is = drop-cons xs n a inside ∙ (ap (λ (x : A). x ∷ drop (suc n) xs) (sym is) ∙ ap (λ (k : ℕ). a ∷ drop k xs) next)
  where
    next : suc n ≡ n + 1
    next = omega arith

-- ---- calls

module _ (test : Name → Bool) (units : List Routine) (rows : List (List Name)) (u : Routine) (j : ℕ) (g : Routine) (is_g : slice_get units j ≡ Some g) where
  -- what a called unit shares
  pub shared_hit : (found : List (List Name)) → found ≡ rows → list_any test (shared_row u g (row_of found j)) ≡ list_any test (shared_by (with_table units rows) u j)
  shared_hit found same =
      ap (λ (rs : List (List Name)). list_any test (shared_row u g (row_of rs j))) same
      ∙ sym (ap (λ (o : Option Routine). list_any test (shared_with u (row_of rows j) o)) is_g)

  -- what a call passes, and what it shares
  pub call_hit : (found : List (List Name)) (passed shared : Bool) (ds : List Name) (es : List Expr) → found ≡ rows → ds ≡ g.dummies
      → passed ≡ list_any test (bare_names (λ d. is_among d (row_of found j)) ds es) → shared ≡ list_any test (shared_by (with_table units rows) u j)
      → (passed || shared) ≡ list_any test (names_of_callee (with_table units rows) u es (Some j))
  call_hit found passed shared ds es same is_ds is_passed is_shared =
      ap (λ (b : Bool). b || shared)
      (is_passed ∙ (ap (λ (rs : List (List Name)). list_any test (bare_names (λ d. is_among d (row_of rs j)) ds es)) same
      ∙ ap (λ (xs : List Name). list_any test (bare_names (λ d. is_among d (row_of rows j)) xs es)) is_ds))
      ∙ (ap (λ (b : Bool). list_any test (bare_names (λ d. is_among d (row_of rows j)) g.dummies es) || b) (is_shared ∙ sym (shared_hit rows refl))
      ∙ (sym (list_any-append test (bare_names (λ d. is_among d (row_of rows j)) g.dummies es) (shared_row u g (row_of rows j)))
      ∙ sym (ap (λ (o : Option Routine). list_any test (names_by u (row_of rows j) es o)) is_g)))

-- ---- statements

module _ (rule : Rule) (test : ℕ → Stmt → Bool) (n : ℕ) (lines : List Line) (line : Line) (broken : Bool) (whole : Option Fault)
    (inside : n < length lines) (is : line ≡ get_or lines n line) (is_broken : broken ≡ test n line.stmt) (so_far : first_at rule test n (drop n lines) ≡ whole) where
  line_split : cond broken (Some (fault_at rule line.card)) (first_at rule test (n + 1) (drop (n + 1) lines)) ≡ whole
  line_split =
      ap (λ (b : Bool). cond b (Some (fault_at rule line.card)) (first_at rule test (n + 1) (drop (n + 1) lines))) is_broken
      ∙ ap (λ (k : ℕ). cond (test n line.stmt) (Some (fault_at rule line.card)) (first_at rule test k (drop (n + 1) lines))) next
      ∙ sym (ap (first_at rule test n) (first_left lines n line inside is)) ∙ so_far
    where
      next : n + 1 ≡ suc n
      next = omega arith

  pub line_gone : broken ≡ false → first_at rule test (n + 1) (drop (n + 1) lines) ≡ whole
  line_gone f = sym (ap (λ (b : Bool). cond b (Some (fault_at rule line.card)) (first_at rule test (n + 1) (drop (n + 1) lines))) f) ∙ line_split

-- the statement at a point was read, and does not break the rule
pub line_read : (rule : Rule) (test : ℕ → Stmt → Bool) (n : ℕ) (xs lines : List Line) (d : Line) (broken : Bool) (whole : Option Fault) → xs ≡ lines → n < length xs
    → broken ≡ test n (get_or xs n d).stmt → first_at rule test n (drop n lines) ≡ whole → broken ≡ false → first_at rule test (n + 1) (drop (n + 1) lines) ≡ whole
line_read rule test n xs lines d broken whole same inside is so_far none =
    let r = read_in xs lines n d same inside in
    line_gone rule test n lines (get_or xs n d) broken whole r.0 r.1 is so_far none

-- the units and the table alone count
pub by_table : (rule : Rule) (u : Routine) (units : List Routine) (rows : List (List Name)) (p : Program) → p.units ≡ units → p.smashes ≡ rows
    → first_at rule (breaks_do (with_table units rows) u) 0 u.lines ≡ first_at rule (breaks_do p u) 0 u.lines
by_table rule u units rows p e f =
    sym (ap (λ (us : List Routine). first_at rule (breaks_do (with_table us p.smashes) u) 0 u.lines) e
    ∙ ap (λ (rs : List (List Name)). first_at rule (breaks_do (with_table units rs) u) 0 u.lines) f)
