-- Small decks whose declarations break a rule.
use Rattle.std.specs.Prelude.{ℕ, List, [], ◌∷◌, ◌++◌, Some, None, codes}
use Rattle.fort_syntax.specs.SmallDecks.{on_cards, plain, array, adjustable, applied_to, IsRefused, IsKept, F, I, J, K, L, N, P, Q, A}
use Rattle.fort_syntax.specs.declared.dialect.Dialect.TheVariants as dialect
use Rattle.fort_syntax.specs.declared.dialect.Sort.TheVariants.{Integer, Logical}
use Rattle.fort_syntax.specs.declared.expr.Expr.TheVariants.{Const, Var}
use Rattle.fort_syntax.specs.declared.name.Name.{Name}
use Rattle.fort_syntax.specs.declared.rule.Rule.{Rule}
use Rattle.fort_syntax.specs.declared.rule.Rule.TheVariants.{NameTwice, ImplicitReal, BadDimension, BlocksDiffer, BadAdjustable}
use Rattle.fort_syntax.specs.declared.stmt.BlockName.{BlockName}
use Rattle.fort_syntax.specs.declared.stmt.BlockName.TheVariants.{Bare, Slashes, Named}
use Rattle.fort_syntax.specs.declared.stmt.Item.{Item}
use Rattle.fort_syntax.specs.declared.stmt.Param.TheVariants as parameter
use Rattle.fort_syntax.specs.declared.stmt.Stmt.{Stmt}
use Rattle.fort_syntax.specs.declared.stmt.Stmt.TheVariants.{Subroutine, Function, Declare, Dimension, Common, Assign, Do, Call, Return, End}
use Rattle.fort_syntax.specs.declared.unit.Line.{Line}

-- a SUBROUTINE P with these dummies, from its head to RETURN and END, on the cards from 1 on
abbrev pub unit : List Name → List Stmt → List Line
unit dummies inner = on_cards 1 (Subroutine P dummies ∷ inner ++ (Return ∷ End ∷ []))

abbrev pub Refused : List Name → List Stmt → Rule → ℕ → Type 0
Refused dummies inner rule card = IsRefused dialect.Common (unit dummies inner) rule card

-- COMMON with one group
abbrev pub common : BlockName → List Item → Stmt
common b items = Common (record { block = b; items = items } ∷ [])

-- 15: dummies, types, dimensions, COMMON, and the own name of the unit
abbrev pub NamesAreDeclaredTwice : Type 0
NamesAreDeclaredTwice =
    Refused (I ∷ I ∷ []) [] NameTwice 1
    × Refused (P ∷ []) [] NameTwice 1
    × Refused [] (Declare Integer (plain I ∷ plain I ∷ []) ∷ []) NameTwice 2
    × Refused [] (Declare Integer (plain I ∷ []) ∷ Declare Logical (plain I ∷ []) ∷ []) NameTwice 3
    × Refused [] (Declare Integer (array I (3 ∷ []) ∷ []) ∷ Dimension (array I (3 ∷ []) ∷ []) ∷ []) NameTwice 3
    × Refused [] (Dimension (array K (3 ∷ []) ∷ []) ∷ common Bare (array K (3 ∷ []) ∷ []) ∷ []) NameTwice 3
    × Refused [] (Common (record { block = Bare; items = plain K ∷ [] } ∷ record { block = Named (codes "B"); items = plain K ∷ [] } ∷ []) ∷ []) NameTwice 2
    × Refused (I ∷ []) (common Bare (plain I ∷ []) ∷ []) NameTwice 2
    × Refused [] (Declare Integer (plain P ∷ []) ∷ []) NameTwice 2
    × Refused [] (common Bare (plain P ∷ []) ∷ []) NameTwice 2
    × IsRefused dialect.Common (on_cards 1 (Function (Some Integer) F (I ∷ []) ∷ Declare Integer
    (plain F ∷ []) ∷ Assign (Var F) (Const 1) ∷ Return ∷ End ∷ [])) NameTwice 2
    × IsKept dialect.Common (unit (I ∷ []) (Declare Integer (plain I ∷ plain K ∷ []) ∷ Dimension
    (array I (3 ∷ []) ∷ []) ∷ common Bare (plain K ∷ []) ∷ []))

-- 16: at the first statement with the name; the name of a SUBROUTINE or of a block needs no type
abbrev pub NamesWithoutType : Type 0
NamesWithoutType =
    Refused (A ∷ []) [] ImplicitReal 1
    × Refused [] (Assign (Var I) (applied_to F (Const 1 ∷ [])) ∷ []) ImplicitReal 2
    × Refused (A ∷ []) (Dimension (adjustable K A ∷ []) ∷ []) ImplicitReal 1
    × Refused [] (Assign (Var I) (Const 1) ∷ Do 10 A (parameter.Fixed 1) (parameter.Fixed 2) None ∷ []) ImplicitReal 3
    × IsRefused dialect.Common (on_cards 1 (Function None F (I ∷ []) ∷ Assign (Var F)
    (Const 1) ∷ Return ∷ End ∷ [])) ImplicitReal 1
    × IsKept dialect.Common (unit (A ∷ []) (Declare Logical (plain A ∷ []) ∷ common (Named F)
    (plain K ∷ []) ∷ Call Q (Var A ∷ []) ∷ []))
    × IsKept dialect.Common (on_cards 1 (Function (Some Integer) F (I ∷ []) ∷ Assign (Var F) (Const 1) ∷ Return ∷ End ∷ []))

-- 17: too many dimensions in each dialect, one of 0, too many elements
abbrev pub DimensionsAreBad : Type 0
DimensionsAreBad =
    Refused [] (Declare Integer (array K (1 ∷ 1 ∷ 1 ∷ 1 ∷ []) ∷ []) ∷ []) BadDimension 2
    × Refused [] (Declare Integer (array K (0 ∷ []) ∷ []) ∷ []) BadDimension 2
    × Refused [] (Dimension (array K (1000 ∷ 1001 ∷ []) ∷ []) ∷ []) BadDimension 2
    × IsKept dialect.Common (unit [] (Dimension (array K (1000 ∷ 1000 ∷ []) ∷ []) ∷ []))
    × IsRefused dialect.SeventySeven (unit [] (Declare Integer (array K (1 ∷ 1 ∷ 1 ∷ 1 ∷ 1 ∷ 1 ∷ 1 ∷ 1 ∷ []) ∷ [])
    ∷ [])) BadDimension 2
    × IsKept dialect.SeventySeven (unit [] (Declare Integer (array K (1 ∷ 1 ∷ 1 ∷ 1 ∷ 1 ∷ 1 ∷ 1 ∷ []) ∷ []) ∷ []))

-- a unit P that declares blank COMMON K, L, and a unit Q behind it
abbrev pub two_units : List Stmt → List Line
two_units inner =
    on_cards 1 (Subroutine P [] ∷ common Bare (plain K ∷ plain L ∷ []) ∷ Return ∷ End ∷ Subroutine Q [] ∷ inner ++
    (Return ∷ End ∷ []))

-- 24: another order, dimensions, or types of the members; an adjustable dimension. A block is joined from its groups
abbrev pub BlocksOfUnitsDiffer : Type 0
BlocksOfUnitsDiffer =
    IsRefused dialect.Common (two_units (common Bare (plain L ∷ plain K ∷ []) ∷ [])) BlocksDiffer 6
    × IsRefused dialect.Common (two_units (common Bare (plain K ∷ array L (2 ∷ []) ∷ []) ∷ [])) BlocksDiffer 6
    × IsRefused dialect.Common (two_units (Declare Logical (plain L ∷ []) ∷ common Slashes
    (plain K ∷ []) ∷ common Bare (plain L ∷ []) ∷ [])) BlocksDiffer 7
    × IsRefused dialect.Common (two_units (common Bare (plain K ∷ []) ∷ [])) BlocksDiffer 6
    × Refused (N ∷ []) (common Bare (adjustable K N ∷ []) ∷ []) BlocksDiffer 2
    × IsKept dialect.Common (two_units (common Slashes (plain K ∷ []) ∷ common (Named F)
    (plain J ∷ []) ∷ common Bare (plain L ∷ []) ∷ []))

-- 25: the array, or its dimension, is no dummy, or the dimension is logical or an array
abbrev pub DimensionsThatAreNames : Type 0
DimensionsThatAreNames =
    Refused (N ∷ []) (Declare Integer (adjustable K N ∷ []) ∷ []) BadAdjustable 2
    × Refused (K ∷ []) (Declare Integer (adjustable K N ∷ []) ∷ []) BadAdjustable 2
    × Refused (K ∷ N ∷ []) (Declare Integer (adjustable K N ∷ []) ∷ Declare Logical (plain N ∷ []) ∷ []) BadAdjustable 2
    × Refused (K ∷ N ∷ []) (Declare Integer (adjustable K N ∷ []) ∷ Dimension (array N (2 ∷ []) ∷ []) ∷ []) BadAdjustable 2
    × IsKept dialect.Common (unit (K ∷ N ∷ []) (Dimension (adjustable K N ∷ []) ∷ []))
