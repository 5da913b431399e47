-- What a term is worth once terms have been put for its symbols and entry values.
use Rattle.std.specs.Prelude.{◌≡◌, ◌⊎◌, ℕ, List}
use Rattle.formula.specs.declared.value.Value.{Value}
use Rattle.formula.specs.Substitution.{substituted}
use Rattle.formula.specs.Tree.{Tree, num, truth, symbol, old, apply, Row, none, more}
use Rattle.formula.specs.Worth.{Function, Uses, Valuation, worth, worth_by}

-- the terms put for names, as values of the names
abbrev pub worths_put : (Tree → Value) → (List ℕ → Tree) → Valuation
worths_put value terms name = value (terms name)

-- it is worth what the term was worth where each name had the worth of what was put for it
abbrev pub SubstitutionIsAssignmentBy : Type 0
SubstitutionIsAssignmentBy =
    (uses : Uses) (symbols entries : Valuation) (for_symbols for_entries : List ℕ → Tree) (t : Tree)
    → worth_by uses symbols entries (substituted for_symbols for_entries t)
    ≡ worth_by uses (worths_put (worth_by uses symbols entries) for_symbols)
    (worths_put (worth_by uses symbols entries) for_entries) t

-- the same under definitions
abbrev pub SubstitutionIsAssignment : Type 0
SubstitutionIsAssignment =
    (fs : List Function) (symbols entries : Valuation) (for_symbols for_entries : List ℕ → Tree) (t : Tree)
    → worth fs symbols entries (substituted for_symbols for_entries t)
    ≡ worth fs (worths_put (worth fs symbols entries) for_symbols) (worths_put (worth fs symbols entries) for_entries) t

abbrev mutual
  -- a name is a symbol of a term
  pub IsSymbolOf : List ℕ → Tree → Type 0
  IsSymbolOf name (num z) = ⊥
  IsSymbolOf name (truth b) = ⊥
  IsSymbolOf name (symbol s) = s ≡ name
  IsSymbolOf name (old s) = ⊥
  IsSymbolOf name (apply f row) = IsRowSymbol name row

  pub IsRowSymbol : List ℕ → Row → Type 0
  IsRowSymbol name none = ⊥
  IsRowSymbol name (more t rest) = IsSymbolOf name t ⊎ IsRowSymbol name rest

abbrev mutual
  -- the entry value of a name stands in a term
  pub IsEntryOf : List ℕ → Tree → Type 0
  IsEntryOf name (num z) = ⊥
  IsEntryOf name (truth b) = ⊥
  IsEntryOf name (symbol s) = ⊥
  IsEntryOf name (old s) = s ≡ name
  IsEntryOf name (apply f row) = IsRowEntry name row

  pub IsRowEntry : List ℕ → Row → Type 0
  IsRowEntry name none = ⊥
  IsRowEntry name (more t rest) = IsEntryOf name t ⊎ IsRowEntry name rest

-- two substitutions that put the same for the symbols of a term, and the same for its entry values, give one term
abbrev pub SubstitutionsAgree : Type 0
SubstitutionsAgree =
    (symbols others entries other_entries : List ℕ → Tree) (t : Tree)
    → ((name : List ℕ) → IsSymbolOf name t → symbols name ≡ others name) → ((name : List ℕ) → IsEntryOf name t
    → entries name ≡ other_entries name)
    → substituted symbols entries t ≡ substituted others other_entries t
