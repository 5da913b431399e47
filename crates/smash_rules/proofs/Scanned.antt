-- Statements and units are judged one after the other.
use Rattle.std.proofs.lemmas.Option.{slice_get_read}
use Rattle.std.specs.List.{list_any}
use Rattle.formula.specs.Atoms.{is_among}
use Rattle.fort_syntax.specs.Names.{is_own, is_function}
use Rattle.fort_syntax.specs.declared.name.Name.{Name}
use Rattle.fort_model.specs.Walk.{is_some_dim}
use Rattle.fort_model.specs.Program.{names_if_any}
use Rattle.smash_heads.specs.Heads.{told_at_head}
use Rattle.smash_laws.specs.Ordered.{with_table}
use Rattle.std.proofs.Common.{◌≡◌, ◌&&◌, not, ℕ, zero, suc, ◌+◌, ◌<◌, List, [], ◌∷◌, length, get_or, drop, Option, Some, None, slice_get, refl, sym, ap, ◌∙◌, arith}
use Rattle.fort_syntax.specs.CardRules.{fault_or}
use Rattle.fort_syntax.specs.UnitRules.{fault_before}
use Rattle.fort_syntax.specs.declared.refusal.Fault.{Fault}
use Rattle.fort_syntax.specs.declared.rule.Rule.{Rule}
use Rattle.fort_syntax.specs.declared.stmt.Stmt.{Stmt}
use Rattle.fort_syntax.specs.declared.unit.Line.{Line}
use Rattle.fort_syntax.specs.declared.unit.Unit.{Unit as Routine}
use Rattle.fort_model.specs.Program.{Program}
use Rattle.stage_faults.specs.Scans.{first_at_lines, first_in_units}
use Rattle.smash_rules.specs.Judged.{stmt_rule, head_rule, fault_if_any}
use Rattle.smash_table.proofs.Steps.{first_left}

module _ (at : Stmt → Option Rule) (lines : List Line) (n : ℕ) (line : Line) (whole : Option Fault) (inside : n < length lines) (is : line ≡ get_or lines n line)
    (so_far : first_at_lines at (drop n lines) ≡ whole) where
  split : fault_or (at line.stmt) line.card (first_at_lines at (drop (n + 1) lines)) ≡ whole
  split = sym (ap (first_at_lines at) (first_left lines n line inside is)) ∙ so_far

  pub line_gone : at line.stmt ≡ None → first_at_lines at (drop (n + 1) lines) ≡ whole
  line_gone e = sym (ap (λ (o : Option Rule). fault_or o line.card (first_at_lines at (drop (n + 1) lines))) e) ∙ split

  pub line_told : (rule : Rule) → at line.stmt ≡ Some rule → Some (record { rule = rule; card = line.card }) ≡ whole
  line_told rule e = sym (ap (λ (o : Option Rule). fault_or o line.card (first_at_lines at (drop (n + 1) lines))) e) ∙ split

-- the item at a place is the first of what is left there
item : {A : Type 0} (xs : List A) (n : ℕ) → n < length xs → (a : A) × (slice_get xs n ≡ Some a) × (drop n xs ≡ a ∷ drop (n + 1) xs)
item [] n h = absurd (omega arith)
item (x ∷ xs) zero h = (x, refl, refl)
item {A = A} (x ∷ xs) (suc n) h =
    let r = item xs n (omega arith) in
    let next : suc n + 1 ≡ suc (n + 1) = omega arith in
    (r.0, r.1, r.2 ∙ sym (ap (λ (k : ℕ). r.0 ∷ drop k (x ∷ xs)) next))

module _ (p : Program) (n : ℕ) (whole : Option Fault) (inside : n < length p.units) (so_far : first_in_units (head_rule p) (stmt_rule p) n (drop n p.units) ≡ whole) where
  unit_split : fault_before (fault_if_any p n (slice_get p.units n)) (first_in_units (head_rule p) (stmt_rule p) (n + 1) (drop (n + 1) p.units)) ≡ whole
  unit_split =
      let r = item p.units n inside in
      ap (λ (o : Option Routine). fault_before (fault_if_any p n o) (first_in_units (head_rule p) (stmt_rule p) (n + 1) (drop (n + 1) p.units))) r.1
      ∙ (sym (ap (first_in_units (head_rule p) (stmt_rule p) n) r.2) ∙ so_far)

  pub unit_gone : fault_if_any p n (slice_get p.units n) ≡ None → first_in_units (head_rule p) (stmt_rule p) (n + 1) (drop (n + 1) p.units) ≡ whole
  unit_gone e = sym (ap (λ (o : Option Fault). fault_before o (first_in_units (head_rule p) (stmt_rule p) (n + 1) (drop (n + 1) p.units))) e) ∙ unit_split

  pub unit_told : (fault : Fault) → fault_if_any p n (slice_get p.units n) ≡ Some fault → Some fault ≡ whole
  unit_told fault e = sym (ap (λ (o : Option Fault). fault_before o (first_in_units (head_rule p) (stmt_rule p) (n + 1) (drop (n + 1) p.units))) e) ∙ unit_split

-- ---- one unit

-- what is told by the row of a unit
pub head_told : (units : List Routine) (rows : List (List Name)) (n : ℕ) (u : Routine) (row : List Name) → n < length rows → row ≡ get_or rows n row
    → told_at_head (is_function u && list_any (λ d. not (is_own d.role) && is_among d.name row) u.names) (list_any (λ d. is_some_dim u d.name && is_among d.name row) u.names)
    ≡ head_rule (with_table units rows) n u
head_told units rows n u row inside is =
    ap (λ (o : Option (List Name)). told_at_head (is_function u && list_any (λ d. not (is_own d.role) && is_among d.name (names_if_any o)) u.names)
    (list_any (λ d. is_some_dim u d.name && is_among d.name (names_if_any o)) u.names))
    (sym (slice_get_read rows (length rows) n row refl inside is))

pub told_by_head : (p : Program) (n : ℕ) (u : Routine) (rule : Rule) → slice_get p.units n ≡ Some u → head_rule p n u ≡ Some rule
    → Some (record { rule = rule; card = u.head }) ≡ fault_if_any p n (slice_get p.units n)
told_by_head p n u rule is e =
    sym (ap (fault_if_any p n) is ∙ ap (λ (o : Option Rule). fault_or o u.head (first_at_lines (stmt_rule p u) u.lines)) e)

pub told_by_lines : (p : Program) (n : ℕ) (u : Routine) (fault : Option Fault) → slice_get p.units n ≡ Some u → head_rule p n u ≡ None
    → fault ≡ first_at_lines (stmt_rule p u) u.lines → fault ≡ fault_if_any p n (slice_get p.units n)
told_by_lines p n u fault is e f =
    f ∙ sym (ap (fault_if_any p n) is ∙ ap (λ (o : Option Rule). fault_or o u.head (first_at_lines (stmt_rule p u) u.lines)) e)
