-- An expression mentions the names in it.
use Rattle.std.proofs.Common.{◌≡◌, Bool, true, false, ◌||◌, refl, sym, ap, ◌∙◌}
use mathlib.Core.Former.{Count}
use Rattle.std.specs.Cmp.Lexicographic.{same_text}
use Rattle.fort_syntax.specs.TreePatterns.{only}
use Rattle.formula.specs.Atoms.{is_among, same_bytes}
use Rattle.fort_syntax.specs.declared.expr.Expr.{Expr, Row_of-Expr, end_of-Expr, more_of-Expr}
use Rattle.fort_syntax.specs.declared.expr.Expr.TheVariants.{Const, Truth, Var, Apply', Paren', Pos', Neg', Power', Bin', Rel', Not', And', Or'}
use Rattle.fort_syntax.specs.declared.name.Name.{Name}
use Rattle.fort_model.specs.Arguments.{mentions, row_mentions}
use Rattle.fort_laws.proofs.FrameSeats.{same_self}
use Rattle.call_tests.specs.Mentioned.{names_in, names_in_row}
use Rattle.call_tests.proofs.Sets.{among_both}

-- the same text either way round
pub turned : (x y : Name) → same_bytes x y ≡ same_bytes y x
turned x y = by_test (same_bytes x y) refl (same_bytes y x) refl
  where
    by_test : (a : Bool) → same_bytes x y ≡ a → (b : Bool) → same_bytes y x ≡ b → same_bytes x y ≡ same_bytes y x
    by_test true e true f = e ∙ sym f
    by_test false e false f = e ∙ sym f
    by_test true e false f = absurd (clash (sym (same_self x) ∙ (ap (λ (z : Name). same_bytes z x) (same_text x y (sym e)) ∙ f)))
      where
        clash : true ≡ false → ⊥
        clash h = cc
    by_test false e true f = absurd (clash (sym (same_self y) ∙ (ap (λ (z : Name). same_bytes z y) (same_text y x (sym f)) ∙ e)))
      where
        clash : true ≡ false → ⊥
        clash h = cc

one_or : (a : Bool) → (a || false) ≡ a
one_or true = refl
one_or false = refl

two : (a b c d : Bool) → a ≡ c → b ≡ d → (a || b) ≡ (c || d)
two a b c d e f = ap (λ (z : Bool). z || b) e ∙ ap (λ (z : Bool). c || z) f

mutual
  pub mentioned : (e : Expr) (x : Name) → mentions e x ≡ is_among x (names_in e)
  mentioned (Const n) x = refl
  mentioned (Truth b) x = refl
  mentioned (Var y) x = turned y x ∙ sym (one_or (same_bytes x y))
  mentioned (Apply' f _ args) x = two _ _ _ _ (turned f x) (row_mentioned args x)
  mentioned (Paren' _ (only a)) x = mentioned a x
  mentioned (Pos' _ (only a)) x = mentioned a x
  mentioned (Neg' _ (only a)) x = mentioned a x
  mentioned (Power' _ (only a) n) x = mentioned a x
  mentioned (Not' _ (only a)) x = mentioned a x
  mentioned (Bin' o _ (only a) _ (only b)) x = two _ _ _ _ (mentioned a x) (mentioned b x) ∙ sym (among_both x (names_in a) (names_in b))
  mentioned (Rel' o _ (only a) _ (only b)) x = two _ _ _ _ (mentioned a x) (mentioned b x) ∙ sym (among_both x (names_in a) (names_in b))
  mentioned (And' _ (only a) _ (only b)) x = two _ _ _ _ (mentioned a x) (mentioned b x) ∙ sym (among_both x (names_in a) (names_in b))
  mentioned (Or' _ (only a) _ (only b)) x = two _ _ _ _ (mentioned a x) (mentioned b x) ∙ sym (among_both x (names_in a) (names_in b))

  row_mentioned : {m : Count} (args : Row_of-Expr m) (x : Name) → row_mentions args x ≡ is_among x (names_in_row args)
  row_mentioned end_of-Expr x = refl
  row_mentioned (more_of-Expr e es) x = two _ _ _ _ (mentioned e x) (row_mentioned es x) ∙ sym (among_both x (names_in e) (names_in_row es))
