-- Actuals beside dummies.
use Rattle.std.proofs.Common.{◌≡◌, ℕ, suc, ◌+◌, Bool, true, false, cond, List, [], ◌∷◌, length, refl, sym, ap, ◌∙◌, rules, arith}
use Rattle.std.specs.Prelude.{◌&&◌, nat_eq, Option, Some, None}
use Rattle.formula.specs.Atoms.{same_bytes}
use Rattle.fort_model.specs.Arguments.{actual_for, all_fit, dim_agrees, dims_agree, fits_dummy}
use Rattle.fort_syntax.specs.Names.{data_name}
use Rattle.fort_syntax.specs.declared.expr.Expr.{Expr}
use Rattle.fort_syntax.specs.declared.name.Name.{Name}
use Rattle.fort_syntax.specs.declared.stmt.Dim.{Dim}
use Rattle.fort_syntax.specs.declared.unit.Unit.{Unit as Routine}
use Rattle.name_tables.specs.Tables.{all_told, first_of}
use Rattle.name_tables.proofs.Told.{swapped, all_told_of}
use Rattle.call_sites.specs.Books.{expr_at, numbered}

abbrev next : Option ℕ → Option ℕ
next None = None
next (Some k) = Some (suc k)

shifted : (b : Bool) (k : ℕ) (o p : Option ℕ) → o ≡ next p → cond b (Some (k + 1)) o ≡ next (cond b (Some k) p)
shifted true k o p h = ap Some (omega arith)
shifted false k o p h = h

shift : (ds : List Name) (k : ℕ) (x : Name) → first_of (numbered ds (k + 1)) x ≡ next (first_of (numbered ds k) x)
shift [] k x = refl
shift (d ∷ ds) k x = shifted (same_bytes x d) k (first_of (numbered ds (k + 1 + 1)) x) (first_of (numbered ds (k + 1)) x) (shift ds (k + 1) x)

nowhere : (o : Option ℕ) → expr_at [] o ≡ None
nowhere None = refl
nowhere (Some k) = refl

behind : (e : Expr) (es : List Expr) (o : Option ℕ) → expr_at (e ∷ es) (next o) ≡ expr_at es o
behind e es None = refl
behind e es (Some k) = refl

numbered_found : (ds : List Name) (es : List Expr) (x : Name) → expr_at es (first_of (numbered ds 0) x) ≡ actual_for ds es x
numbered_found [] es x = refl
numbered_found (d ∷ ds) [] x = nowhere (first_of (numbered (d ∷ ds) 0) x)
numbered_found (d ∷ ds) (e ∷ es) x =
    by (same_bytes x d)
    ∙ (λ i. cond (swapped x d i) (Some e) (numbered_found ds es x i))
  where
    by : (b : Bool) → expr_at (e ∷ es) (cond b (Some 0) (first_of (numbered ds 1) x)) ≡ cond b (Some e) (expr_at es (first_of (numbered ds 0) x))
    by true = refl
    by false = ap (expr_at (e ∷ es)) (shift ds 0 x) ∙ behind e es (first_of (numbered ds 0) x)

pub actual_found : (ds : List Name) (es : List Expr) (x : Name) → expr_at es (first_of (all_told [] (numbered ds 0)) x) ≡ actual_for ds es x
actual_found ds es x = ap (expr_at es) (all_told_of [] (numbered ds 0) x) ∙ numbered_found ds es x

-- ---- lists of other lengths

and_false : (b c : Bool) → c ≡ false → (b && c) ≡ false
and_false true c h = h
and_false false c h = refl

less : (m n : ℕ) → nat_eq (suc m) (suc n) ≡ false → nat_eq m n ≡ false
less m n h = grind (arith, h)

pub unlike_dims : (g : Routine) (es : List Expr) (a b : List Dim) → nat_eq (length a) (length b) ≡ false → false ≡ dims_agree g es a b
unlike_dims g es [] [] h = search rules
unlike_dims g es [] (e ∷ bs) h = refl
unlike_dims g es (d ∷ ds) [] h = refl
unlike_dims g es (d ∷ ds) (e ∷ bs) h =
    sym (and_false (dim_agrees g es d e) (dims_agree g es ds bs) (sym (unlike_dims g es ds bs (less (length ds) (length bs) h))))

pub unlike_dummies : (g : Routine) (all : List Expr) (u : Routine) (ds : List Name) (es : List Expr)
    → nat_eq (length ds) (length es) ≡ false → false ≡ all_fit g all u ds es
unlike_dummies g all u [] [] h = search rules
unlike_dummies g all u [] (e ∷ es) h = refl
unlike_dummies g all u (d ∷ ds) [] h = refl
unlike_dummies g all u (d ∷ ds) (e ∷ es) h =
    sym (and_false (fits_dummy g all u (data_name g d) e) (all_fit g all u ds es) (sym (unlike_dummies g all u ds es (less (length ds) (length es) h))))
