-- Notes of small decks, and the conditions of one.
use Rattle.std.specs.Prelude.{◌≡◌, ℕ, Bool, List, [], ◌∷◌, codes, pos, neg_ℤ}
use Rattle.fort_syntax.specs.Conditions.{ConditionTree}
use Rattle.fort_syntax.specs.SmallDecks.{I}
use Rattle.formula.specs.declared.function.BuiltIn.{BuiltIn as Builtin}
use Rattle.formula.specs.declared.function.BuiltIn.TheVariants as f
use Rattle.formula.specs.declared.function.Func.TheVariants.{BuiltIn}
use Rattle.formula.specs.Tree.{Tree, num, truth, symbol, old, apply, tree_row}
use Rattle.fort_syntax.specs.declared.condition.Kind.{Kind}
use Rattle.fort_syntax.specs.declared.condition.Kind.TheVariants.{DefinedCheck, RangeCheck, OutputCheck}
use Rattle.fort_syntax.specs.declared.dialect.Dialect.{Dialect}
use Rattle.fort_syntax.specs.declared.dialect.Dialect.TheVariants.{Common}
use Rattle.fort_syntax.specs.declared.name.Name.{Name}
use Rattle.fort_syntax.specs.declared.unit.Unit.{Unit as Routine}
use Rattle.fort_notes.specs.Assertions.{Notes, Assertion}
use Rattle.fort_model.specs.Program.{Program}
use Rattle.fort_model.specs.Paths.{Path}
use Rattle.fort_model.specs.Conditions.{conditions_of}
use Rattle.fort_model.specs.Rows.{inc}

-- ---- notes

abbrev pub term : Builtin → List Tree → Tree
term g ts = apply (BuiltIn g) (tree_row ts)

abbrev pub defined : Name → Tree
defined x = term f.Defined (symbol x ∷ [])

abbrev pub number : ℕ → Tree
number n = num (pos n)

abbrev pub at_most : Tree → Tree → Tree
at_most a b = term f.AtMost (a ∷ b ∷ [])

abbrev pub true_term : Tree
true_term = truth Bool.true

-- one unit with its notes, and the names that it smashes
abbrev pub alone : Dialect → Routine → Notes → List Name → Program
alone dialect u notes smashed =
    record { dialect = dialect; units = u ∷ []; notes = notes ∷ []; functions = []; bound = 32767; smashes = smashed ∷ [] }

abbrev pub plain_notes : List Assertion → Notes
plain_notes asserts = record { input = true_term ∷ []; output = true_term ∷ []; asserts = asserts }

-- ---- one is added to I: the conditions, each with all its hypotheses

abbrev pub inc_program : Program
inc_program =
    alone Common inc
    (record {
      input = defined I ∷ term f.Less (symbol I ∷ number 100 ∷ []) ∷ [];
      output = term f.Equal (symbol I ∷ term f.Plus (old I ∷ number 1 ∷ []) ∷ []) ∷ [];
      asserts = [];
    })
    (I ∷ [])

abbrev pub LEAST : Tree
LEAST = symbol (codes "LEAST")

abbrev pub GREATEST : Tree
GREATEST = symbol (codes "GREATEST")

abbrev pub I-IN : Tree
I-IN = symbol (codes "I-IN")

abbrev pub sum_of_inc : Tree
sum_of_inc = term f.Plus (I-IN ∷ number 1 ∷ [])

abbrev pub range_of_inc : Tree
range_of_inc = term f.And (at_most LEAST sum_of_inc ∷ at_most sum_of_inc GREATEST ∷ [])

-- hypotheses that all three have, and some more
abbrev pub given_and : List Tree → List Tree
given_and more =
    at_most LEAST (num (neg_ℤ (pos 32767)))
    ∷ at_most (number 32767) GREATEST
    ∷ term f.IntegerCell (I-IN ∷ LEAST ∷ GREATEST ∷ [])
    ∷ term f.Defined (I-IN ∷ [])
    ∷ term f.Less (I-IN ∷ number 100 ∷ [])
    ∷ more

abbrev pub inc_condition : ℕ → Kind → ℕ → List Tree → Tree → ConditionTree
inc_condition k kind card hyps goal = record { unit = codes "INC"; path = 1; check = k; kind = kind; card = card; hyps = hyps; goal = goal }

abbrev pub the_path : List (List ℕ) → Path
the_path way = record { start = 0; choices = way }

abbrev pub ConditionsOfInc : Type 0
ConditionsOfInc =
    conditions_of inc_program ((the_path ([] ∷ [] ∷ []) ∷ []) ∷ [])
    ≡ inc_condition 1 DefinedCheck 4 (given_and []) (term f.Defined (I-IN ∷ []))
    ∷ inc_condition 2 RangeCheck 4 (given_and (term f.Defined (I-IN ∷ []) ∷ [])) range_of_inc
    ∷ inc_condition 3 OutputCheck 5 (given_and (term f.Defined (I-IN ∷ []) ∷ range_of_inc ∷ []))
    (term f.Equal (sum_of_inc ∷ sum_of_inc ∷ []))
    ∷ []
