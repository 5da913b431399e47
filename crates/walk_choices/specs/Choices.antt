-- What the choices of a path say of conditions, signs and selectors.
use Rattle.std.specs.Prelude.{ℕ, List, get_or}
use Rattle.formula.specs.Tree.{Tree}
use Rattle.fort_syntax.specs.declared.expr.Expr.{Expr}
use Rattle.fort_syntax.specs.declared.name.Name.{Name}
use Rattle.fort_model.specs.Seen.{Named, See, ◌>>=◌, ◌>>◌, see}
use Rattle.fort_model.specs.Senses.{negated}
use Rattle.fort_model.specs.WalkCalls.{Sight}
use Rattle.fort_model.specs.WalkExpr.{read, value}
use Rattle.fort_model.specs.WalkStmt as forms

-- the first choice; 0 where there is none
abbrev pub first_choice : List ℕ → ℕ
first_choice cs = get_or cs 0 0

module _ (w : Sight Tree) (card : ℕ) (now : Named Tree) where
  -- a condition is evaluated, and is true
  abbrev pub is_true : Expr → See Tree (Unit {0})
  is_true e = value w card now e >>= λ v. forms.taken w v

  -- it is evaluated, and is false
  abbrev pub is_false : Expr → See Tree (Unit {0})
  is_false e = value w card now e >>= λ v. forms.taken w (negated w.sense v)

  -- it decides where the flow goes on
  abbrev pub decided : Expr → List ℕ → See Tree (Named Tree)
  decided e cs = value w card now e >>= λ v. forms.taken w (forms.truth_fact w v cs) >> see now

  -- the sign of a value decides where the flow goes on
  abbrev pub signed : Expr → List ℕ → See Tree (Named Tree)
  signed e cs = value w card now e >>= λ v. forms.taken w (forms.sign_fact w v cs) >> see now

  -- a number counts none of so many labels, and the flow goes on behind the statement
  abbrev pub passed : ℕ → ℕ → Tree → List ℕ → See Tree (Named Tree)
  passed pc labels i cs = forms.taken w (negated w.sense (forms.counts_label w labels i)) >> forms.behind w card pc now cs

  -- a number is read that counts one of so many labels
  abbrev pub selected : ℕ → Name → ℕ → List ℕ → See Tree (Named Tree)
  selected pc x labels cs = read w card (now x) >>= λ i. forms.choice_check w w.program.dialect card
      labels i >> forms.selected w card pc now labels i cs
