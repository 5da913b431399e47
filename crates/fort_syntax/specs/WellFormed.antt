-- Which decks are well formed: a property of units and notes alone, whose declarations are gone. A deck
-- made of statements that keep the rules on units is well formed.
use Rattle.std.specs.Prelude.{ℕ, ◌^◌, ◌&&◌, ◌||◌, not, nat_le, nat_lt, Bool, true, false, cond, IsTrue, List, [], ◌∷◌, ◌++◌, map, flat_map, Option, Some, None, is_some, ⊤}
use Rattle.std.specs.List.{list_any, list_all}
use Rattle.fort_syntax.specs.Cards.{is_given}
use Rattle.fort_syntax.specs.Grammar.{is_carried}
use Rattle.formula.specs.Atoms.{same_bytes, is_among, has_twin, is_name}
use Rattle.fort_syntax.specs.Names.{data_name, dims_of, sort_or}
use Rattle.fort_syntax.specs.TreePatterns.{carried}
use Rattle.fort_syntax.specs.Scopes.{Scope, same_option, same_dims, do_meet, is_array, is_intrinsic_name, is_integer_scalar}
use Rattle.fort_syntax.specs.Uses.{Use, read, assigned, assigned_element, counted, applied, argument_of, actual, called, uses_of, all_parts, used_labels}
use Rattle.fort_syntax.specs.Units.{class_of, is_performing, gathered, name_of_block, names_of_items, names_in_dims}
use Rattle.fort_syntax.specs.OrderRules.{is_bad_block}
use Rattle.fort_syntax.specs.DeckOrder.{stand_between, units_ascend_above, notes_ascend_above, has_place}
use Rattle.fort_syntax.specs.NameRules.{is_bad_shape, member_of, Member, same_members}
use Rattle.fort_syntax.specs.TypeRules.{is_well_typed, all_plain_subscripts}
use Rattle.fort_syntax.specs.UseRules.{is_misused, wants_plain_subscripts, has_label, assigns}
use Rattle.fort_syntax.specs.declared.name.Name.{Name}
use Rattle.fort_syntax.specs.declared.deck.Deck.{Deck}
use Rattle.fort_syntax.specs.declared.dialect.Dialect.{Dialect}
use Rattle.fort_syntax.specs.declared.dialect.Sort.{Sort}
use Rattle.fort_syntax.specs.declared.expr.Expr.{Expr}
use Rattle.fort_syntax.specs.declared.expr.Expr.TheVariants.{Const, Var, Apply', Power'}
use Rattle.fort_syntax.specs.declared.stmt.BlockName.{BlockName}
use Rattle.fort_syntax.specs.declared.stmt.BlockName.TheVariants as block
use Rattle.fort_syntax.specs.declared.stmt.Group.{Group}
use Rattle.fort_syntax.specs.declared.stmt.Item.{Item}
use Rattle.fort_syntax.specs.declared.stmt.Param.{Param}
use Rattle.fort_syntax.specs.declared.stmt.Param.TheVariants.{Fixed, Named}
use Rattle.fort_syntax.specs.declared.stmt.Stmt.{Stmt}
use Rattle.fort_syntax.specs.declared.stmt.Stmt.TheVariants.{Assign, Computed, LogicalIf', Do, BlockIf, ElseIf, Else, EndIf}
use Rattle.fort_syntax.specs.declared.unit.DataName.{DataName}
use Rattle.fort_syntax.specs.declared.unit.FunctionName.{FunctionName}
use Rattle.fort_syntax.specs.declared.unit.Line.{Line}
use Rattle.fort_syntax.specs.declared.unit.Role.{Role}
use Rattle.fort_syntax.specs.declared.unit.Role.TheVariants.{Dummy, InCommon, OwnValue, Local}
use Rattle.fort_syntax.specs.declared.unit.Unit.{Unit as Routine}

-- ---- what a unit says of names

abbrev pub sort_of_function : List FunctionName → Name → Option Sort
sort_of_function [] x = None
sort_of_function (f ∷ fs) x = cond (same_bytes f.name x) (Some f.sort) (sort_of_function fs x)

-- a name has the type of its data name, or else of its function, and the dimensions of its data name
abbrev pub scope_of_unit : Routine → Scope
scope_of_unit u = record { sort = λ x. sort_or (data_name u x) (sort_of_function u.functions x); dims = dims_of u }

abbrev pub names_of_unit : Routine → List Name
names_of_unit u = map (λ d. d.name) u.names

abbrev pub functions_of_unit : Routine → List Name
functions_of_unit u = map (λ f. f.name) u.functions

-- the COMMON entities in order of declaration
abbrev pub commons_of_unit : Routine → List Name
commons_of_unit u = flat_map (λ group. names_of_items group.items) u.blocks

abbrev pub own_value_of_unit : Routine → List Name
own_value_of_unit u = cond (is_some u.sort) (u.name ∷ []) []

abbrev pub role_in_unit : Routine → Name → Role
role_in_unit u x =
    cond (is_among x u.dummies) Dummy
    (cond (is_among x (commons_of_unit u)) InCommon
    (cond (is_among x (own_value_of_unit u)) OwnValue Local))

abbrev pub same_role : Role → Role → Bool
same_role Dummy Dummy = true
same_role InCommon InCommon = true
same_role OwnValue OwnValue = true
same_role Local Local = true
same_role _ _ = false

-- ---- names

abbrev pub name_as_block : BlockName → List Name
name_as_block block.Bare = []
name_as_block block.Slashes = []
name_as_block (block.Named b) = b ∷ []

-- all names have 1 to 6 letters and digits and begin with a letter
abbrev pub are_names : Routine → Bool
are_names u =
    list_all is_name (u.name ∷ names_of_unit u ++ functions_of_unit u ++ flat_map (λ group. name_as_block group.block) u.blocks)

-- no name is two dummies, COMMON entities or the unit itself
abbrev pub are_held_once : Routine → Bool
are_held_once u = not (has_twin (u.name ∷ u.dummies ++ commons_of_unit u))

-- data names are distinct; dummies, COMMON entities and the value of a FUNCTION are among them, and the name of
-- a SUBROUTINE is not
abbrev pub are_data_names : Routine → Bool
are_data_names u =
    not (has_twin (names_of_unit u))
    && list_all (λ x. is_among x (names_of_unit u)) (u.dummies ++ commons_of_unit u ++ own_value_of_unit u)
    && (is_some u.sort || not (is_among u.name (names_of_unit u)))

-- each data name has the role that dummies, blocks and the unit's name give it, and a FUNCTION's value its type
abbrev pub has_right_role : Routine → DataName → Bool
has_right_role u d =
    same_role d.role (role_in_unit u d.name)
    && (not (same_role d.role OwnValue) || same_option (Some d.sort) u.sort)

-- functions are distinct, neither data names nor intrinsic, and not the unit itself
abbrev pub are_functions : Routine → Bool
are_functions u =
    not (has_twin (functions_of_unit u)) && not (do_meet (functions_of_unit u) (names_of_unit u))
    && not (list_any is_intrinsic_name (functions_of_unit u)) && not (is_among u.name (functions_of_unit u))

-- few dimensions, none 0, not too many elements; those that are names are integer scalar dummies of a dummy
abbrev pub has_right_dims : Dialect → Routine → DataName → Bool
has_right_dims dialect u d =
    not (is_bad_shape dialect d.dims)
    && list_all (λ x. same_role d.role Dummy && is_among x u.dummies && is_integer_scalar (scope_of_unit u) x)
    (names_in_dims d.dims)

-- ---- blocks

abbrev pub is_bare_block : BlockName → Bool
is_bare_block block.Bare = true
is_bare_block _ = false

-- an item of a block has the dimensions of its name
abbrev pub is_right_item : Routine → Item → Bool
is_right_item u item = same_dims item.dims (dims_of u item.name)

-- each block stands once, blank COMMON as `//`, and its items have the dimensions of their names
abbrev pub are_blocks : Routine → Bool
are_blocks u =
    not (has_twin (map (λ group. name_of_block group.block) u.blocks))
    && list_all (λ group. not (is_bare_block group.block) && list_all (is_right_item u) group.items) u.blocks

abbrev pub members_of_group : Routine → Group → List Member
members_of_group u group = map (member_of (scope_of_unit u)) (names_of_items group.items)

-- two blocks of one name have the same names, types and dimensions
abbrev pub agree_groups : Routine → Routine → Group → Group → Bool
agree_groups u v g h =
    not (same_bytes (name_of_block g.block) (name_of_block h.block)) || same_members (members_of_group u g) (members_of_group v h)

abbrev pub agree_on_blocks : Routine → Routine → Bool
agree_on_blocks u v = list_all (λ g. list_all (agree_groups u v g) v.blocks) u.blocks

-- ---- statements

abbrev pub is_block_statement : Stmt → Bool
is_block_statement (BlockIf e) = true
is_block_statement (ElseIf e) = true
is_block_statement Else = true
is_block_statement EndIf = true
is_block_statement _ = false

abbrev pub is_left_side : Expr → Bool
is_left_side (Var x) = true
is_left_side (Apply' f _ args) = true
is_left_side _ = false

abbrev pub is_small : ℕ → Bool
is_small n = nat_lt n (10 ^ 18)

abbrev pub is_small_param : Param → Bool
is_small_param (Fixed n) = is_small n
is_small_param (Named x) = true

abbrev pub is_small_step : Option Param → Bool
is_small_step None = true
is_small_step (Some p) = is_small_param p

-- an assignment is to a name or an element; a computed GO TO has a label; a logical IF carries one of
-- seven kinds; constants have at most 18 digits
abbrev pub has_right_form : Stmt → Bool
has_right_form (Assign left right) = is_left_side left
has_right_form (Computed labels x) = is_given labels
has_right_form (LogicalIf' e _ (carried s)) = is_carried s && has_right_form s
has_right_form (Do label x first last step) = is_small_param first && is_small_param last && is_small_step step
has_right_form _ = true

-- exponents are 1 to 9, and constants have at most 18 digits
abbrev pub has_right_numbers : Expr → Bool
has_right_numbers (Const n) = is_small n
has_right_numbers (Power' _ a n) = nat_le 1 n && nat_le n 9
has_right_numbers _ = true

-- a bare name is a data name; a name before a bracket is an array, an intrinsic function or one of the
-- unit's functions; a called name is no data name
abbrev pub is_known : Routine → Name → Use → Bool
is_known u x read = is_among x (names_of_unit u)
is_known u x assigned = is_among x (names_of_unit u)
is_known u x counted = is_among x (names_of_unit u)
is_known u x (argument_of f) = is_among x (names_of_unit u)
is_known u x actual = is_among x (names_of_unit u)
is_known u x (assigned_element n) = is_array (scope_of_unit u) x
is_known u x (applied n) =
    is_array (scope_of_unit u) x || (is_intrinsic_name x && not (is_among x (names_of_unit u)))
    || is_among x (functions_of_unit u)
is_known u x called = is_name x && not (is_among x (names_of_unit u))

-- each name is known, arrays have as many subscripts as dimensions or are whole actuals, and intrinsic
-- functions their number of arguments
abbrev pub has_right_uses : Routine → Stmt → Bool
has_right_uses u s = list_all (λ o. is_known u o.name o.«use» && not (is_misused (scope_of_unit u) o.name o.«use»)) (uses_of s)

-- an executable statement, without 77 none of block IFs and with plain subscripts, right in form, names, types and numbers, that
-- names labels of the unit
abbrev pub is_right_statement : Dialect → Routine → Stmt → Bool
is_right_statement dialect u s =
    is_performing (class_of s)
    && (not (wants_plain_subscripts dialect) || (not (is_block_statement s) && all_plain_subscripts (scope_of_unit u) s))
    && has_right_form s && list_all has_right_numbers (all_parts s) && has_right_uses u s && is_well_typed (scope_of_unit u) s
    && list_all (λ label. has_label label u.lines) (used_labels s)

-- ---- the statements of a unit together

-- behind some statements, block IFs nest, and no label stands a second time
abbrev pub are_in_order : List Line → List Line → Bool
are_in_order before [] = true
are_in_order before (line ∷ behind) =
    not (is_bad_block before line.stmt behind) && not (has_label line.label before) && are_in_order (before ++ line ∷ []) behind

-- the value of a FUNCTION is assigned
abbrev pub has_result : Routine → Bool
has_result u = not (is_some u.sort) || assigns u.name (gathered uses_of u.lines)

-- ---- units and decks

pub record IsWellFormedUnit (dialect : Dialect) (u : Routine) : Type 0 where
  pub names : IsTrue (are_names u)
  pub held : IsTrue (are_held_once u)
  pub data_names : IsTrue (are_data_names u)
  pub roles : IsTrue (list_all (has_right_role u) u.names)
  pub functions : IsTrue (are_functions u)
  pub dimensions : IsTrue (list_all (has_right_dims dialect u) u.names)
  pub blocks : IsTrue (are_blocks u)
  pub statements : IsTrue (list_all (λ line. is_right_statement dialect u line.stmt) u.lines)
  pub order : IsTrue (are_in_order [] u.lines)
  pub cards : IsTrue (stand_between u.head u.lines u.«end»)
  pub result : IsTrue (has_result u)

abbrev pub AreWellFormedUnits : Dialect → List Routine → Type 0
AreWellFormedUnits dialect [] = ⊤
AreWellFormedUnits dialect (u ∷ us) = IsWellFormedUnit dialect u × AreWellFormedUnits dialect us

-- each unit is well formed, and any two of them agree on the blocks that both have; units stand one behind the
-- other; notes stand on ascending cards, in units that are there
pub record IsWellFormed (dialect : Dialect) (deck : Deck) : Type 0 where
  pub units : AreWellFormedUnits dialect deck.units
  pub blocks : IsTrue (list_all (λ u. list_all (agree_on_blocks u) deck.units) deck.units)
  pub order : IsTrue (units_ascend_above 0 deck.units)
  pub notes : IsTrue (notes_ascend_above 0 deck.notes)
  pub places : IsTrue (list_all (has_place deck.units) deck.notes)
