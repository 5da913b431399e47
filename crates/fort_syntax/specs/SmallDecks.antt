-- Short ways to write small decks down, statement by statement.
use Rattle.std.specs.Prelude.{◌≡◌, ℕ, ◌+◌, List, [], ◌∷◌, map, Some, None, codes}
use mathlib.Core.Former.{arity, this}
use Rattle.edge_io.specs.formers.list.List as former
use Rattle.fort_syntax.specs.TreePatterns.{only, carried}
use Rattle.fort_syntax.specs.Units.{Piece, stated}
use Rattle.fort_syntax.specs.UnitRules.{unit_fault}
use Rattle.fort_syntax.specs.declared.name.Name.{Name}
use Rattle.fort_syntax.specs.declared.dialect.BinOp.{BinOp}
use Rattle.fort_syntax.specs.declared.dialect.Dialect.{Dialect}
use Rattle.fort_syntax.specs.declared.dialect.RelOp.{RelOp}
use Rattle.fort_syntax.specs.declared.expr.Expr.{Expr, Row_of-Expr, end_of-Expr, more_of-Expr}
use Rattle.fort_syntax.specs.declared.expr.Expr.TheVariants.{Apply', Paren', Bin', Rel'}
use Rattle.fort_syntax.specs.declared.rule.Rule.{Rule}
use Rattle.fort_syntax.specs.declared.stmt.Dim.TheVariants.{Fixed, Named}
use Rattle.fort_syntax.specs.declared.stmt.Item.{Item}
use Rattle.fort_syntax.specs.declared.stmt.Stmt.{Stmt}
use Rattle.fort_syntax.specs.declared.stmt.Stmt.TheVariants.{LogicalIf'}
use Rattle.fort_syntax.specs.declared.unit.Line.{Line}

-- expressions
abbrev pub bin : BinOp → Expr → Expr → Expr
bin o a b = Bin' o _ (only a) _ (only b)

abbrev pub rel : RelOp → Expr → Expr → Expr
rel o a b = Rel' o _ (only a) _ (only b)

abbrev pub bracket : Expr → Expr
bracket a = Paren' _ (only a)

abbrev pub shape_of : List Expr → List (Unit {0})
shape_of [] = []
shape_of (e ∷ es) = tt ∷ shape_of es

abbrev pub arguments : (es : List Expr) → Row_of-Expr (arity (former.the_former (this {0})) (shape_of es))
arguments [] = end_of-Expr
arguments (e ∷ es) = more_of-Expr e (arguments es)

abbrev pub applied_to : Name → List Expr → Expr
applied_to f args = Apply' f (shape_of args) (arguments args)

abbrev pub if : Expr → Stmt → Stmt
if e s = LogicalIf' e _ (carried s)

-- items: a name alone, and an array with constant or adjustable dimensions
abbrev pub plain : Name → Item
plain x = record { name = x; dims = [] }

abbrev pub array : Name → List ℕ → Item
array x sizes = record { name = x; dims = map Fixed sizes }

abbrev pub adjustable : Name → Name → Item
adjustable x n = record { name = x; dims = Named n ∷ [] }

-- statements without labels on the cards from one on
abbrev pub on_cards : ℕ → List Stmt → List Line
on_cards card [] = []
on_cards card (s ∷ rest) = record { card = card; label = 0; stmt = s } ∷ on_cards (card + 1) rest

abbrev pub labelled : ℕ → ℕ → Stmt → Line
labelled card label s = record { card = card; label = label; stmt = s }

abbrev pub pieces : List Line → List Piece
pieces lines = map stated lines

-- the first fault of a deck is that of a rule on a card
abbrev pub IsRefused : Dialect → List Line → Rule → ℕ → Type 0
IsRefused dialect lines rule card = unit_fault dialect (pieces lines) ≡ Some (record { rule = rule; card = card })

abbrev pub IsKept : Dialect → List Line → Type 0
IsKept dialect lines = unit_fault dialect (pieces lines) ≡ None

-- names
abbrev pub A : Name
A = codes "A"

abbrev pub F : Name
F = codes "F"

abbrev pub I : Name
I = codes "I"

abbrev pub J : Name
J = codes "J"

abbrev pub K : Name
K = codes "K"

abbrev pub L : Name
L = codes "L"

abbrev pub M : Name
M = codes "M"

abbrev pub N : Name
N = codes "N"

abbrev pub P : Name
P = codes "P"

abbrev pub Q : Name
Q = codes "Q"
