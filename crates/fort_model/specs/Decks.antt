-- Short ways to write small decks down.
use Rattle.std.specs.Prelude.{ℕ, ◌+◌, ◌-◌, Bool, true, false, cond, pos, neg_ℤ, List, [], ◌∷◌, Some, None}
use Rattle.std.specs.List.{list_any}
use Rattle.fort_syntax.specs.TreePatterns.{only}
use Rattle.formula.specs.declared.value.Cell.{Cell}
use Rattle.formula.specs.declared.value.Cell.TheVariants.{Int}
use Rattle.fort_syntax.specs.declared.name.Name.{Name}
use Rattle.fort_syntax.specs.declared.dialect.Dialect.{Dialect}
use Rattle.fort_syntax.specs.declared.dialect.Sort.TheVariants.{Integer}
use Rattle.fort_syntax.specs.declared.expr.Expr.{Expr}
use Rattle.fort_syntax.specs.declared.expr.Expr.TheVariants.{Neg', Power', And'}
use Rattle.fort_syntax.specs.declared.stmt.Dim.{Dim}
use Rattle.fort_syntax.specs.declared.stmt.Stmt.{Stmt}
use Rattle.fort_syntax.specs.declared.unit.DataName.{DataName}
use Rattle.fort_syntax.specs.declared.unit.Line.{Line}
use Rattle.fort_syntax.specs.declared.unit.Role.{Role}
use Rattle.fort_syntax.specs.declared.unit.Role.TheVariants.{OwnValue}
use Rattle.fort_syntax.specs.declared.unit.Unit.{Unit as Routine}
use Rattle.fort_syntax.specs.Scopes.{is_given_dims}
use Rattle.fort_syntax.specs.Units.{card_of_first, card_of_last}
use Rattle.fort_model.specs.Storage.{Environment, with_extents, side_by_side}
use Rattle.fort_model.specs.Processor.{Processor}

abbrev pub conj : Expr → Expr → Expr
conj a b = And' _ (only a) _ (only b)

abbrev pub power : Expr → ℕ → Expr
power a n = Power' _ (only a) n

abbrev pub minus : Expr → Expr
minus a = Neg' _ (only a)

-- statements at their cards, without a label and with one
abbrev pub line : ℕ → Stmt → Line
line card s = record { card = card; label = 0; stmt = s }

-- integer names
abbrev pub scalar : Role → Name → DataName
scalar role x = record { name = x; sort = Integer; dims = []; role = role }

abbrev pub array : Role → Name → List Dim → DataName
array role x dims = record { name = x; sort = Integer; dims = dims; role = role }

-- the declaration of its arrays, INPUT and OUTPUT stand between the head of a unit and its first statement, and
-- END behind the last
abbrev pub card_of_head : List DataName → List Line → ℕ
card_of_head names lines = card_of_first lines - cond (list_any (λ d. is_given_dims d.dims) names) 4 3

abbrev pub card_of_end : List Line → ℕ
card_of_end lines = card_of_last 0 lines + 1

-- a SUBROUTINE without COMMON: its name, its dummies, its data names and its statements
abbrev pub routine : Name → List Name → List DataName → List Line → Routine
routine name dummies names lines =
    record {
      name = name;
      sort = None;
      head = card_of_head names lines;
      dummies = dummies;
      names = names;
      functions = [];
      blocks = [];
      lines = lines;
      «end» = card_of_end lines;
    }

-- an integer FUNCTION without COMMON; its value is the first of its data names
abbrev pub function_of : Name → List Name → List DataName → List Line → Routine
function_of name dummies names lines =
    record {
      name = name;
      sort = Some Integer;
      head = card_of_head names lines;
      dummies = dummies;
      names =
          scalar OwnValue name ∷ names;
      functions = [];
      blocks = [];
      lines = lines;
      «end» = card_of_end lines;
    }

-- the numbers of 16 bits
abbrev pub processor : Dialect → Bool → (Name → ℕ → ℕ → Bool) → Processor
processor dialect lazy copies = record {
  dialect = dialect;
  least = neg_ℤ (pos 32768);
  greatest = pos
      32767;
  lazy = lazy;
  copies = copies;
}

abbrev pub by_reference : Name → ℕ → ℕ → Bool
by_reference unit call argument = false

abbrev pub by_copy : Name → ℕ → ℕ → Bool
by_copy unit call argument = true

-- each of some names has so many cells of its own, in order
abbrev pub laid_out : List Name → List ℕ → Environment
laid_out names sizes = with_extents names (side_by_side sizes 0) (λ x. record { first = 0; size = 0 })

-- a number in a cell
abbrev pub int : ℕ → Cell
int n = Int (pos n)

abbrev pub negative : ℕ → Cell
negative n = Int (neg_ℤ (pos n))
