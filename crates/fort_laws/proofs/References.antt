-- The calls in expressions are references to FUNCTIONs.
use Rattle.std.proofs.Common.{◌≡◌, zero, suc, ◌⊎◌, inl, inr, true, List, [], ◌∷◌, ◌++◌}
use Rattle.fort_syntax.specs.TreePatterns.{listed, only}
use Rattle.fort_syntax.specs.Names.{Applied, Element, BuiltIn, Reference, applied}
use mathlib.Core.Former.{Count}
use Rattle.fort_syntax.specs.declared.name.Name.{Name}
use Rattle.fort_syntax.specs.declared.expr.Expr.{Expr, Row_of-Expr, end_of-Expr, more_of-Expr}
use Rattle.fort_syntax.specs.declared.expr.Expr.TheVariants.{Const, Truth, Var, Apply', Paren', Pos', Neg', Power', Bin', Rel', Not', And', Or'}
use Rattle.fort_syntax.specs.declared.unit.Unit.{Unit as Routine}
use Rattle.fort_model.specs.Calls.{CallSite, own_site, sites_in, sites_in_row}
use Rattle.fort_model.specs.Lists.{IsAmong}

pub among_either : {A : Type 0} (a : A) (xs ys : List A) → IsAmong a (xs ++ ys) → IsAmong a xs ⊎ IsAmong a ys
among_either a [] ys m = inr m
among_either a (x ∷ xs) ys (zero, e) = inl (0, e)
among_either {A = A} a (x ∷ xs) ys (suc k, e) = one_up (among_either a xs ys (k, e))
  where
    one_up : IsAmong a xs ⊎ IsAmong a ys → IsAmong a (x ∷ xs) ⊎ IsAmong a ys
    one_up (inl h) = inl (suc h.0, h.1)
    one_up (inr h) = inr h

abbrev Are : List CallSite → Type 0
Are sites = (site : CallSite) → IsAmong site sites → site.reference ≡ true

are_both : (xs ys : List CallSite) → Are xs → Are ys → Are (xs ++ ys)
are_both xs ys h k site m = pick (among_either site xs ys m)
  where
    pick : IsAmong site xs ⊎ IsAmong site ys → site.reference ≡ true
    pick (inl a) = h site a
    pick (inr b) = k site b

are_none : Are []
are_none site m = absurd (cc)

are_own : (kind : Applied) (f : Name) (es : List Expr) → Are (own_site kind f es)
are_own (Element dims) f es = are_none
are_own (BuiltIn i) f es = are_none
are_own Reference f es = only_one
  where
    only_one : Are (record { reference = true; callee = f; actuals = es } ∷ [])
    only_one site (zero, e) = cc
    only_one site (suc k, e) = absurd (cc)

mutual
  pub sites_are_references : (u : Routine) (e : Expr) (site : CallSite) → IsAmong site (sites_in u e) → site.reference ≡ true
  sites_are_references u (Const c) = are_none
  sites_are_references u (Truth b) = are_none
  sites_are_references u (Var x) = are_none
  sites_are_references u (Apply' f shape args) = are_both (own_site (applied u f) f (listed args)) (sites_in_row u args) (are_own (applied u f) f (listed args)) (row_references u args)
  sites_are_references u (Paren' shape (only a)) = sites_are_references u a
  sites_are_references u (Pos' shape (only a)) = sites_are_references u a
  sites_are_references u (Neg' shape (only a)) = sites_are_references u a
  sites_are_references u (Power' shape (only a) n) = sites_are_references u a
  sites_are_references u (Bin' o q (only a) r (only b)) = are_both (sites_in u a) (sites_in u b) (sites_are_references u a) (sites_are_references u b)
  sites_are_references u (Rel' o q (only a) r (only b)) = are_both (sites_in u a) (sites_in u b) (sites_are_references u a) (sites_are_references u b)
  sites_are_references u (Not' shape (only a)) = sites_are_references u a
  sites_are_references u (And' q (only a) r (only b)) = are_both (sites_in u a) (sites_in u b) (sites_are_references u a) (sites_are_references u b)
  sites_are_references u (Or' q (only a) r (only b)) = are_both (sites_in u a) (sites_in u b) (sites_are_references u a) (sites_are_references u b)

  pub row_references : (u : Routine) {m : Count} (es : Row_of-Expr m) (site : CallSite) → IsAmong site (sites_in_row u es) → site.reference ≡ true
  row_references u end_of-Expr = are_none
  row_references u (more_of-Expr e es) = are_both (sites_in u e) (sites_in_row u es) (sites_are_references u e) (row_references u es)
