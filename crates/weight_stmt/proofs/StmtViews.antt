-- Statements as the code takes them apart.
use Rattle.std.proofs.Common.{◌≡◌, ℕ, List, [], ◌∷◌, length, take, Result, OnOk, refl, sym, ap, ◌∙◌, subst}
use Rattle.fort_syntax.specs.Names.{dims_of, subroutine}
use Rattle.fort_syntax.specs.declared.expr.Expr.{Expr}
use Rattle.fort_syntax.specs.declared.expr.Expr.TheViews as view
use Rattle.fort_syntax.specs.declared.name.Name.{Name}
use Rattle.fort_syntax.specs.declared.stmt.Dim.{Dim}
use Rattle.fort_syntax.specs.declared.stmt.Stmt.{Stmt}
use Rattle.fort_syntax.specs.declared.stmt.Stmt.TheVariants.{Call}
use Rattle.fort_syntax.specs.declared.stmt.Stmt.TheViews as stmt
use Rattle.fort_model.specs.Seen.{Named}
use Rattle.fort_model.specs.WalkCalls.{Sight, Operand}
use Rattle.fort_model.specs.WalkStmt.{with_name}
use Rattle.weight_caps.specs.Loads.{with_tests}
use Rattle.weight_caps.specs.declared.loads.Load.{Load}
use Rattle.weight_expr.specs.Listed.{values_listed}
use Rattle.weight_expr.proofs.Views.{operands_row, values_hidden}
use Rattle.weight_stmt.specs.Parts.{call_part, decided_part, element_part}
use Rattle.weight_tallies.specs.Tallied as t
use Rattle.weight_tallies.specs.Tallies as c

module _ (w : Sight ℕ) (now : Named ℕ) where
  in_logical : (pc : ℕ) (e : Expr) (s : Stmt) (cs : List ℕ) → c.performed w pc now (stmt.LogicalIf e s) cs ≡ decided_part w pc now e s cs
  unfolding Rattle.fort_syntax.specs.declared.stmt.Stmt.TheBlock.hidden-the_row-Stmt-0 denote.Hole.Carrier.hidden
  in_logical pc e s [] = refl
  in_logical pc e s (x ∷ cs) = refl

  in_call : (pc : ℕ) (f : Name) (args : List Expr) (cs : List ℕ) → c.performed w pc now (Call f args) cs ≡ call_part w pc now f args cs
  in_call pc f args cs =
      ap (λ (part : t.Tally (List (Operand ℕ))). t.◌>>=◌ part (λ xs. t.◌>>=◌ (c.called w (subroutine w.program.units f) now xs)
      (λ after. c.behind w pc after cs))) (operands_row w now args)

  in_element : (a : Name) (args : List Expr) (n : ℕ) → c.assign w now (view.Apply a args) n ≡ element_part w now a args n
  in_element a args n =
      ap (λ (part : t.Tally (List ℕ)). t.◌>>=◌ part (λ is. t.◌>>◌ (t.all_tested (take (length (dims_of w.unit a)) is))
      (t.tallied (with_name now a (t.next (t.both (t.both (now a) (t.all is)) n)))))) (values_hidden w now args)

  -- ---- arms

  pub logical_path : (pc : ℕ) (s x a : Stmt) (e : Expr) (cs : List ℕ) → s ≡ stmt.LogicalIf e a → x ≡ a
      → decided_part w pc now e x cs ≡ c.performed w pc now s cs
  logical_path pc s x a e cs f g = ap (λ y. decided_part w pc now e y cs) g ∙ (sym (in_logical pc e a cs) ∙ sym (ap (λ y. c.performed w pc now y cs) f))

  pub call_path : (pc : ℕ) (s : Stmt) (f : Name) (args xs : List Expr) (cs : List ℕ) → s ≡ Call f args → xs ≡ args
      → call_part w pc now f xs cs ≡ c.performed w pc now s cs
  call_path pc s f args xs cs g h = ap (λ es. call_part w pc now f es cs) h ∙ (sym (in_call pc f args cs) ∙ sym (ap (λ y. c.performed w pc now y cs) g))

  pub element_path : (e : Expr) (a : Name) (args xs : List Expr) (n : ℕ) → e ≡ view.Apply a args → xs ≡ args → element_part w now a xs n ≡ c.assign w now e n
  element_path e a args xs n g h = ap (λ es. element_part w now a es n) h ∙ (sym (in_element a args n) ∙ sym (ap (λ y. c.assign w now y n) g))

-- what a part comes to is what another does
pub load_by : {E : Type 0} (r : Result (Unit {0}) E) (new : Load) (part whole : t.Tally (Named ℕ)) (old : Load) → part ≡ whole
    → OnOk r (new ≡ (part old).load) → OnOk r (new ≡ (whole old).load)
load_by r new part whole old e h = let T : t.Tally (Named ℕ) → Type 0 = λ x. OnOk r (new ≡ (x old).load) in subst T e h

pub names_by : {E : Type 0} (r : Result (Unit {0}) E) (names : Named ℕ) (part whole : t.Tally (Named ℕ)) (old : Load) → part ≡ whole
    → OnOk r (names ≡ (part old).value) → OnOk r (names ≡ (whole old).value)
names_by r names part whole old e h = let T : t.Tally (Named ℕ) → Type 0 = λ x. OnOk r (names ≡ (x old).value) in subst T e h

-- ---- an element is assigned to

module _ (w : Sight ℕ) (now : Named ℕ) (e : Expr) (a : Name) (args xs : List Expr) (n : ℕ) (old : Load) (f : e ≡ view.Apply a args) (g : xs ≡ args)
    (subs row : List ℕ) (h : subs ≡ (values_listed w now xs old).value) (same : row ≡ subs) where
  whole : element_part w now a xs n old ≡ c.assign w now e n old
  whole = ap (λ (part : t.Tally (Named ℕ)). part old) (element_path w now e a args xs n f g)

  pub element_load : (mid new : Load) (dims : List Dim) → mid ≡ (values_listed w now xs old).load → dims ≡ dims_of w.unit a
      → new ≡ with_tests mid (take (length dims) row) → new ≡ (c.assign w now e n old).load
  element_load mid new dims m d k =
      k ∙ ((λ i. with_tests (m i) (take (length (d i)) ((same ∙ h) i))) ∙ ap (λ (s : t.Tallied (Named ℕ)). s.load) whole)

  pub element_names : (after : Named ℕ) (was all before behind : ℕ) → was ≡ now a → all ≡ t.all row → before ≡ t.both was all
      → behind ≡ t.pair before n → after ≡ with_name now a behind → after ≡ (c.assign w now e n old).value
  element_names after was all before behind i j k l m =
      m
      ∙ (ap (with_name now a) (l ∙ ap (λ b. t.pair b n) (k ∙ ((λ x. t.both (i x) ((j ∙ ap t.all (same ∙ h)) x)))))
      ∙ ap (λ (s : t.Tallied (Named ℕ)). s.value) whole)
