-- In which sense a walk is read. A walk along a path is written down once, for any kind of things V that names stand
-- for. In the sense of values, names stand for values, and functions are computed: so the checks of a walk hold or
-- fail. In the sense of terms, names stand for terms, and functions are only written: so the checks are the goals of
-- conditions. In the sense of nothing, what names stand for is left out: so kinds and cards of checks remain.
use Rattle.std.specs.Prelude.{ℕ, ℤ, pos, Bool, cond, List, [], ◌∷◌, codes}
use Rattle.formula.specs.declared.function.BuiltIn.{BuiltIn as Builtin}
use Rattle.formula.specs.declared.function.BuiltIn.TheVariants as f
use Rattle.formula.specs.declared.function.Func.TheVariants.{BuiltIn}
use Rattle.formula.specs.declared.value.Value.{Value}
use Rattle.formula.specs.declared.value.Value.TheVariants.{Int, Logical}
use Rattle.formula.specs.Atoms.{same_bytes}
use Rattle.formula.specs.Substitution.{substituted}
use Rattle.formula.specs.Tree.{Tree, num, truth, symbol, apply, tree_row}
use Rattle.formula.specs.Values.{applied}
use Rattle.formula.specs.Worth.{Function, Valuation, worth}
use Rattle.fort_model.specs.Symbols.{Symbol, LeastInteger, GreatestInteger, word_of}

-- numbers and truth values; a built-in function of arguments; a term of a note, by what its symbols and its entry
-- values stand for; and the symbols of conditions
pub record Sense (V : Type 0) : Type 0 where
  pub number : ℤ → V
  pub truth_value : Bool → V
  pub make : Builtin → List V → V
  pub told : (List ℕ → V) → (List ℕ → V) → Tree → V
  pub named : Symbol → V

-- values, by definitions of functions and the values of symbols
abbrev pub of_values : List Function → (Symbol → Value) → Sense Value
of_values fs values = record {
  number = Int;
  truth_value = Logical;
  make = applied;
  told = worth fs;
  named = values;
}

-- the values of symbols, by the values of words
abbrev pub by_words : Valuation → Symbol → Value
by_words words s = words (word_of s)

-- terms
abbrev pub of_terms : Sense Tree
of_terms = record {
  number = num;
  truth_value = truth;
  make = λ g ts. apply (BuiltIn g) (tree_row ts);
  told = substituted;
  named = λ s. symbol (word_of s);
}

-- nothing
abbrev pub of_nothing : Sense (Unit {0})
of_nothing = record {
  number = λ z. tt;
  truth_value = λ b. tt;
  make = λ g xs. tt;
  told = λ now old t. tt;
  named = λ s. tt;
}

module _ {V : Type 0} (s : Sense V) where
  -- small numbers, and functions of one, two and three arguments
  abbrev pub natural : ℕ → V
  natural n = s.number (pos n)

  abbrev pub make1 : Builtin → V → V
  make1 g a = s.make g (a ∷ [])

  abbrev pub make2 : Builtin → V → V → V
  make2 g a b = s.make g (a ∷ b ∷ [])

  abbrev pub make3 : Builtin → V → V → V → V
  make3 g a b c = s.make g (a ∷ b ∷ c ∷ [])

  abbrev pub least_integer : V
  least_integer = s.named LeastInteger

  abbrev pub greatest_integer : V
  greatest_integer = s.named GreatestInteger

  -- (UNDEF)
  abbrev pub undefined : V
  undefined = s.make f.Undefined []

  -- (DEFINED a), (NOT a)
  abbrev pub is_defined : V → V
  is_defined a = make1 f.Defined a

  abbrev pub negated : V → V
  negated a = make1 f.Not a

  -- (AND (ZLEQ a b) (ZLEQ b c))
  abbrev pub lies_from_to : V → V → V → V
  lies_from_to a c b = make2 f.And (make2 f.AtMost a b) (make2 f.AtMost b c)

  -- a number is one of the processor's integers
  abbrev pub in_range : V → V
  in_range t = lies_from_to least_integer greatest_integer t

  -- in notes, LEAST and GREATEST are the processor's bounds whatever else is named so
  abbrev pub with_bounds : (List ℕ → V) → List ℕ → V
  with_bounds now w =
      cond (same_bytes (codes "LEAST") w) least_integer
      (cond (same_bytes (codes "GREATEST") w) greatest_integer (now w))

  -- a term of a note, by what names stand for at the entry and now
  abbrev pub note : (List ℕ → V) → (List ℕ → V) → Tree → V
  note entry now t = s.told (with_bounds now) entry t
