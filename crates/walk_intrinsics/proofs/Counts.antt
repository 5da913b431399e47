-- Intrinsic functions by the number of their values.
use Rattle.std.proofs.Common.{◌≡◌, ◌≢◌, ℕ, suc, ◌≤◌, Bool, true, false, List, [], ◌∷◌, length, map, refl, sym, ap, ◌∙◌, subst, arith, get_or}
use Rattle.formula.specs.declared.node.Node.{Node}
use Rattle.formula.specs.declared.node.TermId.{TermId}
use Rattle.formula.specs.Pool.{AllBelow, IsIn, tree_of}
use Rattle.formula.specs.Tree.{Tree}
use Rattle.fort_syntax.specs.Names as names
use Rattle.fort_syntax.specs.declared.unit.Unit.{Unit as Routine}
use Rattle.fort_model.specs.Conditions.{sight}
use Rattle.fort_model.specs.Program.{Program}
use Rattle.fort_model.specs.Seen.{See, see}
use Rattle.fort_model.specs.Senses.{of_terms, undefined}
use Rattle.fort_model.specs.WalkExpr as steps
use Rattle.walk_elements.specs.Events as two
use Rattle.walk_intrinsics.specs.Functions.{greatest_or_least}

pub one_of : (ids : List TermId) (d : TermId) → length ids ≡ 1 → ids ≡ get_or ids 0 d ∷ []
one_of [] d h = absurd (omega arith)
one_of (a ∷ []) d h = refl
one_of (a ∷ (b ∷ ids)) d h = absurd (omega arith)

pub two_of : (ids : List TermId) (d : TermId) → length ids ≡ 2 → ids ≡ get_or ids 0 d ∷ get_or ids 1 d ∷ []
two_of [] d h = absurd (omega arith)
two_of (a ∷ []) d h = absurd (omega arith)
two_of (a ∷ (b ∷ [])) d h = refl
two_of (a ∷ (b ∷ (c ∷ ids))) d h = absurd (omega arith)

module _ (p : Program) (i : ℕ) (u : Routine) (card : ℕ) where
  pub not_one : (ts : List Tree) → length ts ≢ 1 → see (undefined of_terms) ≡ steps.intrinsic_value (sight of_terms p i u) card names.Absolute ts
  not_one [] h = refl
  not_one (t ∷ []) h = absurd (h refl)
  not_one (t ∷ (v ∷ ts)) h = refl

  pub not_two : (ts : List Tree) → length ts ≢ 2 → see (undefined of_terms) ≡ steps.intrinsic_value (sight of_terms p i u) card names.Modulo ts
  not_two [] h = refl
  not_two (t ∷ []) h = refl
  not_two (t ∷ (v ∷ [])) h = absurd (h refl)
  not_two (t ∷ (v ∷ (w ∷ ts))) h = refl

  pub none_folded : (b : Bool) (ts : List Tree) → ts ≡ [] → see (undefined of_terms) ≡ steps.intrinsic_value (sight of_terms p i u) card (greatest_or_least b) ts
  none_folded true ts e = ap (steps.intrinsic_value (sight of_terms p i u) card names.Greatest) (sym e)
  none_folded false ts e = ap (steps.intrinsic_value (sight of_terms p i u) card names.Least) (sym e)

  pub some_folded : (b : Bool) (t : Tree) (ts : List Tree)
      → see (steps.folded (sight of_terms p i u) (two.greatest_or_least b) t ts) ≡ steps.intrinsic_value (sight of_terms p i u) card (greatest_or_least b) (t ∷ ts)
  some_folded true t ts = refl
  some_folded false t ts = refl

pub length_trees : (nodes : List Node) (ids : List TermId) → length (map (tree_of nodes) ids) ≡ length ids
length_trees nodes [] = refl
length_trees nodes (id ∷ ids) = ap (λ (n : ℕ). suc n) (length_trees nodes ids)
