-- The units that the statements of a deck are, what the declarations of a unit say of its names, and
-- where notes stand.
use Rattle.std.specs.Prelude.{ℕ, ◌&&◌, ◌||◌, not, Bool, true, false, cond, List, [], ◌∷◌, ◌++◌, map, length, flat_map, Option, Some, None}
use Rattle.formula.specs.Atoms.{same_bytes, is_among}
use Rattle.fort_syntax.specs.Scopes.{Scope, once, kept, sort_by_letter, is_given_dims, is_array, is_intrinsic_name}
use Rattle.fort_syntax.specs.Uses.{Use, applied, called, Occurrence, uses_of}
use Rattle.fort_syntax.specs.declared.class.Class.{Class}
use Rattle.fort_syntax.specs.declared.class.Class.TheVariants.{Heading, Declaring, Performing, Ending}
use Rattle.fort_syntax.specs.declared.name.Name.{Name}
use Rattle.fort_syntax.specs.declared.dialect.Sort.{Sort}
use Rattle.fort_syntax.specs.declared.dialect.Sort.TheVariants.{Integer}
use Rattle.fort_syntax.specs.declared.stmt.BlockName.{BlockName}
use Rattle.fort_syntax.specs.declared.stmt.BlockName.TheVariants as block
use Rattle.fort_syntax.specs.declared.stmt.Dim.{Dim}
use Rattle.fort_syntax.specs.declared.stmt.Dim.TheVariants.{Fixed, Named}
use Rattle.fort_syntax.specs.declared.stmt.Group.{Group}
use Rattle.fort_syntax.specs.declared.stmt.Item.{Item}
use Rattle.fort_syntax.specs.declared.stmt.Stmt.{Stmt}
use Rattle.fort_syntax.specs.declared.stmt.Stmt.TheVariants.{Subroutine, Function, Declare, Dimension, Common, End}
use Rattle.fort_syntax.specs.declared.deck.Deck.{Deck}
use Rattle.fort_syntax.specs.declared.deck.Placed.{Placed}
use Rattle.fort_syntax.specs.declared.unit.DataName.{DataName}
use Rattle.fort_syntax.specs.declared.unit.FunctionName.{FunctionName}
use Rattle.fort_syntax.specs.declared.unit.Line.{Line}
use Rattle.fort_syntax.specs.declared.unit.Role.{Role}
use Rattle.fort_syntax.specs.declared.unit.Role.TheVariants.{Dummy, InCommon, OwnValue, Local}
use Rattle.fort_syntax.specs.declared.unit.Unit.{Unit as Routine}

-- a statement that was read, with its card and its label, or a note: its card and its text
pub data Piece : Type 0 where
  stated : Line → Piece
  remarked : ℕ → List ℕ → Piece

abbrev pub statements : List Piece → List Line
statements [] = []
statements (stated line ∷ rest) = line ∷ statements rest
statements (remarked card text ∷ rest) = statements rest

-- ---- units

-- a head, a declaration, an executable statement, or END
abbrev pub class_of : Stmt → Class
class_of (Subroutine f dummies) = Heading
class_of (Function sort f dummies) = Heading
class_of (Declare sort items) = Declaring
class_of (Dimension items) = Declaring
class_of (Common groups) = Declaring
class_of End = Ending
class_of _ = Performing

abbrev pub is_heading : Class → Bool
is_heading Heading = true
is_heading _ = false

abbrev pub is_declaring : Class → Bool
is_declaring Declaring = true
is_declaring _ = false

abbrev pub is_performing : Class → Bool
is_performing Performing = true
is_performing _ = false

abbrev pub is_ending : Class → Bool
is_ending Ending = true
is_ending _ = false

-- the statements of a unit, head, declarations and END among them
abbrev pub Segment : Type 0
Segment = List Line

-- a statement in front of the first segment, or alone where there is none
abbrev pub put_before : Line → List Segment → List Segment
put_before line [] = (line ∷ []) ∷ []
put_before line (segment ∷ rest) = (line ∷ segment) ∷ rest

abbrev pub begun_with : Class → Line → List Segment → List Segment
begun_with Ending line rest = (line ∷ []) ∷ rest
begun_with Heading line rest = put_before line rest
begun_with Declaring line rest = put_before line rest
begun_with Performing line rest = put_before line rest

-- the units of statements: each END is the last statement of one
abbrev pub segments : List Line → List Segment
segments [] = []
segments (line ∷ lines) = begun_with (class_of line.stmt) line (segments lines)

abbrev pub executables : Segment → List Line
executables unit = kept (λ line. is_performing (class_of line.stmt)) unit

-- what all statements of a unit give, in order
abbrev pub gathered : {X : Type 0} → (Stmt → List X) → Segment → List X
gathered give unit = flat_map (λ line. give line.stmt) unit

-- ---- the head

-- no unit has the name without letters
abbrev pub headed_by : Stmt → Name
headed_by (Subroutine f dummies) = f
headed_by (Function sort f dummies) = f
headed_by _ = []

abbrev pub is_function_head : Stmt → Bool
is_function_head (Function sort f dummies) = true
is_function_head _ = false

abbrev pub own_name : Segment → Name
own_name [] = []
own_name (line ∷ lines) = headed_by line.stmt

abbrev pub is_function_segment : Segment → Bool
is_function_segment [] = false
is_function_segment (line ∷ lines) = is_function_head line.stmt

abbrev pub dummies_by : Stmt → List Name
dummies_by (Subroutine f dummies) = dummies
dummies_by (Function sort f dummies) = dummies
dummies_by _ = []

abbrev pub dummies_of : Segment → List Name
dummies_of unit = gathered dummies_by unit

-- ---- declarations

abbrev pub groups_by : Stmt → List Group
groups_by (Common groups) = groups
groups_by _ = []

abbrev pub common_items_by : Stmt → List Item
common_items_by s = flat_map (λ group. group.items) (groups_by s)

-- the items of a declaration
abbrev pub items_by : Stmt → List Item
items_by (Declare sort items) = items
items_by (Dimension items) = items
items_by s = common_items_by s

-- a name and the type that a statement gives it
pub record Typing : Type 0 where
  pub name : Name
  pub sort : Sort

-- a Declare types its items, and the head of a FUNCTION with a type its name
abbrev pub typings_by : Stmt → List Typing
typings_by (Declare sort items) = map (λ item. record { name = item.name; sort = sort }) items
typings_by (Function (Some sort) f dummies) = record { name = f; sort = sort } ∷ []
typings_by _ = []

-- the type of the first of some typings for a name; else the one that its letter gives
abbrev pub sort_in : List Typing → Name → Option Sort
sort_in [] x = sort_by_letter x
sort_in (typing ∷ rest) x = cond (same_bytes typing.name x) (Some typing.sort) (sort_in rest x)

-- the dimensions of the first of some items for a name that has any
abbrev pub dims_in : List Item → Name → List Dim
dims_in [] x = []
dims_in (item ∷ rest) x = cond (same_bytes item.name x && is_given_dims item.dims) item.dims (dims_in rest x)

-- what a unit's declarations say of names
abbrev pub scope_of : Segment → Scope
scope_of unit = record { sort = sort_in (gathered typings_by unit); dims = dims_in (gathered items_by unit) }

abbrev pub names_of_items : List Item → List Name
names_of_items items = map (λ item. item.name) items

abbrev pub commons_of : Segment → List Name
commons_of unit = names_of_items (gathered common_items_by unit)

-- ---- blocks

-- blank COMMON is the block with the name without letters
abbrev pub name_of_block : BlockName → Name
name_of_block block.Bare = []
name_of_block block.Slashes = []
name_of_block (block.Named b) = b

abbrev pub block_of_name : Name → BlockName
block_of_name [] = block.Slashes
block_of_name (c ∷ cs) = block.Named (c ∷ cs)

-- the blocks that a statement declares
abbrev pub blocks_by : Stmt → List Name
blocks_by s = map (λ group. name_of_block group.block) (groups_by s)

abbrev pub items_of_block_in : List Group → Name → List Item
items_of_block_in groups b = flat_map (λ group. cond (same_bytes (name_of_block group.block) b) group.items []) groups

-- a block is all groups of its name in the unit, joined in order
abbrev pub items_of_block : Segment → Name → List Item
items_of_block unit b = items_of_block_in (gathered groups_by unit) b

-- ---- the names in a statement

abbrev pub names_in_dims : List Dim → List Name
names_in_dims [] = []
names_in_dims (Fixed n ∷ dims) = names_in_dims dims
names_in_dims (Named x ∷ dims) = x ∷ names_in_dims dims

abbrev pub names_in_item : Item → List Name
names_in_item item = item.name ∷ names_in_dims item.dims

abbrev pub is_called : Use → Bool
is_called called = true
is_called _ = false

abbrev pub names_used : List Occurrence → List Name
names_used uses = flat_map (λ o. cond (is_called o.«use») [] (o.name ∷ [])) uses

-- the names in a statement, in the order of the text. The name of a SUBROUTINE in its head and in a
-- CALL, and names of blocks, do not count
abbrev pub names_in : Stmt → List Name
names_in (Subroutine f dummies) = dummies
names_in (Function sort f dummies) = f ∷ dummies
names_in (Declare sort items) = flat_map names_in_item items
names_in (Dimension items) = flat_map names_in_item items
names_in (Common groups) = flat_map names_in_item (common_items_by (Common groups))
names_in s = names_used (uses_of s)

-- ---- functions and data names

abbrev pub is_applied : Use → Bool
is_applied (applied n) = true
is_applied _ = false

-- a function reference: a name before a bracket in an expression that is no array
abbrev pub is_reference : Scope → Occurrence → Bool
is_reference scope o = is_applied o.«use» && not (is_array scope o.name)

abbrev pub references_in : Scope → List Occurrence → List Name
references_in scope uses = map (λ o. o.name) (kept (is_reference scope) uses)

-- the functions that a unit references, intrinsic ones among them, in order of first appearance
abbrev pub references_of : Segment → List Name
references_of unit = once (references_in (scope_of unit) (gathered uses_of unit))

abbrev pub functions_of : Segment → List Name
functions_of unit = kept (λ f. not (is_intrinsic_name f)) (references_of unit)

abbrev pub own_value_of : Segment → List Name
own_value_of unit = cond (is_function_segment unit) (own_name unit ∷ []) []

-- the names that are data whatever they are used as
abbrev pub held_by : Segment → List Name
held_by unit = dummies_of unit ++ commons_of unit ++ own_value_of unit

-- the data names of a unit in order of first appearance: its dummies, its COMMON entities, the own
-- name of a FUNCTION, and each other name that is no function reference of the unit
abbrev pub data_names : Segment → List Name
data_names unit =
    kept (λ x. is_among x (held_by unit) || not (is_among x (references_of unit))) (once (gathered names_in unit))

abbrev pub role_of : Segment → Name → Role
role_of unit x =
    cond (is_among x (dummies_of unit)) Dummy
    (cond (is_among x (commons_of unit)) InCommon
    (cond (is_among x (own_value_of unit)) OwnValue Local))

-- ---- the units of a deck

-- a name without a type breaks a rule; here it is an integer
abbrev pub sort_or_integer : Option Sort → Sort
sort_or_integer None = Integer
sort_or_integer (Some sort) = sort

abbrev pub data_name_of : Segment → Name → DataName
data_name_of unit x =
    record { name = x; sort = sort_or_integer ((scope_of unit).sort x); dims = (scope_of unit).dims x; role = role_of unit x }

abbrev pub function_name_of : Segment → Name → FunctionName
function_name_of unit f = record { name = f; sort = sort_or_integer ((scope_of unit).sort f) }

-- an item of a block with the dimensions that the unit gives its name, wherever it does
abbrev pub item_of : Segment → Name → Item
item_of unit x = record { name = x; dims = (scope_of unit).dims x }

abbrev pub group_of : Segment → Name → Group
group_of unit b = record { block = block_of_name b; items = map (item_of unit) (names_of_items (items_of_block unit b)) }

abbrev pub card_of_first : Segment → ℕ
card_of_first [] = 0
card_of_first (line ∷ lines) = line.card

abbrev pub card_of_last : ℕ → Segment → ℕ
card_of_last card [] = card
card_of_last card (line ∷ lines) = card_of_last line.card lines

abbrev pub unit_of : Segment → Routine
unit_of unit = record {
  name = own_name unit;
  sort = cond (is_function_segment unit) (Some (sort_or_integer ((scope_of unit).sort (own_name unit)))) None;
  head = card_of_first unit;
  dummies = dummies_of unit;
  names = map (data_name_of unit) (data_names unit);
  functions = map (function_name_of unit) (functions_of unit);
  blocks = map (group_of unit) (once (gathered blocks_by unit));
  lines = executables unit;
  «end» = card_of_last 0 unit;
}

-- ---- notes

-- a unit has begun and has not ended
abbrev pub is_inside : Bool → List Line → Bool
is_inside inside [] = inside
is_inside inside (line ∷ lines) = is_inside (not (is_ending (class_of line.stmt))) lines

abbrev pub last_segment : Segment → List Segment → Segment
last_segment segment [] = segment
last_segment segment (next ∷ rest) = last_segment next rest

-- outside the units: 0 before the first statement, and 1 behind an END
abbrev pub line_outside : List Line → ℕ
line_outside [] = 0
line_outside (line ∷ lines) = 1

-- a note behind some statements
abbrev pub placed : List Line → ℕ → List ℕ → Placed
placed before card text =
    cond (is_inside false before)
    (record {
      card = card;
      text = text;
      unit = length (segments before);
      line = length
          (executables (last_segment [] (segments before)));
    })
    (record { card = card; text = text; unit = 0; line = line_outside before })

abbrev pub notes_behind : List Line → List Piece → List Placed
notes_behind before [] = []
notes_behind before (stated line ∷ rest) = notes_behind (before ++ line ∷ []) rest
notes_behind before (remarked card text ∷ rest) = placed before card text ∷ notes_behind before rest

-- the deck that statements and notes are, where no rule is broken
abbrev pub deck_of : List Piece → Deck
deck_of pieces = record { units = map unit_of (segments (statements pieces)); notes = notes_behind [] pieces }
