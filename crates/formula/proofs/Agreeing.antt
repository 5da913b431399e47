-- Substitutions that put the same for what stands in a term.
use Rattle.std.proofs.Common.{◌≡◌, inl, inr, ℕ, List, refl, ap}
use Rattle.formula.specs.Substitution.{substituted, row_substituted}
use Rattle.formula.specs.SubstitutionLaws.{IsSymbolOf, IsRowSymbol, IsEntryOf, IsRowEntry}
use Rattle.formula.specs.Tree.{Tree, num, truth, symbol, old, apply, Row, none, more}

mutual
  pub agree : (f g e h : List ℕ → Tree) (t : Tree) → ((name : List ℕ) → IsSymbolOf name t → f name ≡ g name) → ((name : List ℕ) → IsEntryOf name t → e name ≡ h name)
      → substituted f e t ≡ substituted g h t
  agree f g e h (num z) symbols entries = refl
  agree f g e h (truth b) symbols entries = refl
  agree f g e h (symbol s) symbols entries = symbols s refl
  agree f g e h (old s) symbols entries = entries s refl
  agree f g e h (apply k row) symbols entries = ap (apply k) (rows_agree f g e h row symbols entries)

  pub rows_agree : (f g e h : List ℕ → Tree) (row : Row) → ((name : List ℕ) → IsRowSymbol name row → f name ≡ g name) → ((name : List ℕ) → IsRowEntry name row → e name ≡ h name)
      → row_substituted f e row ≡ row_substituted g h row
  rows_agree f g e h none symbols entries = refl
  rows_agree f g e h (more t rest) symbols entries =
      λ i. more (agree f g e h t (λ name there. symbols name (inl there)) (λ name there. entries name (inl there)) i)
      (rows_agree f g e h rest (λ name there. symbols name (inr there)) (λ name there. entries name (inr there)) i)
