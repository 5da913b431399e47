-- What one pass over the statements of a unit finds of its declarations.
use Rattle.std.specs.Prelude.{◌&&◌, ◌||◌, not, Bool, cond, List, [], ◌∷◌, ◌++◌, is_none, Option, Some, None}
use Rattle.std.specs.List.{list_any}
use Rattle.formula.specs.Atoms.{is_among}
use Rattle.fort_syntax.specs.CardRules.{fault_or}
use Rattle.fort_syntax.specs.Scopes.{Scope, is_integer_scalar}
use Rattle.fort_syntax.specs.Units.{Segment, gathered, own_name, dummies_of, scope_of, dummies_by, items_by, blocks_by, names_in, names_in_dims}
use Rattle.fort_syntax.specs.NameRules.{typed_by, dimensioned_by, commons_by, is_bad_shape, declares_otherwise, members, is_adjustable}
use Rattle.fort_syntax.specs.declared.dialect.Dialect.{Dialect}
use Rattle.fort_syntax.specs.declared.name.Name.{Name}
use Rattle.fort_syntax.specs.declared.refusal.Fault.{Fault}
use Rattle.fort_syntax.specs.declared.rule.Rule.{Rule}
use Rattle.fort_syntax.specs.declared.rule.Rule.TheVariants.{NameTwice, ImplicitReal, BadDimension, BlocksDiffer, BadAdjustable}
use Rattle.fort_syntax.specs.declared.stmt.Item.{Item}
use Rattle.fort_syntax.specs.declared.stmt.Stmt.{Stmt}
use Rattle.fort_syntax.specs.declared.unit.Line.{Line}
use Rattle.decl_faults.specs.declared.done.Done.{Done}
use Rattle.decl_faults.specs.declared.done.Given.{Given}
use Rattle.name_tables.specs.Sets.{with_names, repeats}

abbrev pub given_of : Stmt → Given
given_of s = record { typed = typed_by s; dimensioned = dimensioned_by s; commons = commons_by s }

abbrev pub nothing_done : Done
nothing_done = record { dummies = []; typed = []; dimensioned = []; commons = [] }

abbrev pub does_twice : Done → Stmt → Given → Bool
does_twice done s given =
    repeats done.dummies (dummies_by s) || repeats done.typed given.typed || repeats done.dimensioned given.dimensioned
    || repeats done.commons given.commons

abbrev pub done_with : Done → Stmt → Given → Done
done_with done s given = record {
  dummies = with_names done.dummies (dummies_by s);
  typed = with_names done.typed given.typed;
  dimensioned = with_names done.dimensioned given.dimensioned;
  commons = with_names done.commons given.commons;
}

-- what is known of a unit: its own name, what its declarations say of names, which names are dummies,
-- and which blocks differ from those of earlier units or have an adjustable dimension
pub record Facts : Type 0 where
  pub own : Name
  pub scope : Scope
  pub is_dummy : Name → Bool
  pub is_bad_block : Name → Bool

-- a block of a unit differs from that of an earlier unit, or has an adjustable dimension
abbrev pub is_bad_in : List Segment → Segment → Name → Bool
is_bad_in earlier unit b =
    list_any (declares_otherwise b (members unit b)) earlier || list_any (λ m. is_adjustable m.dims) (members unit b)

abbrev pub facts_of : List Segment → Segment → Facts
facts_of earlier unit = record {
  own = own_name unit;
  scope = scope_of unit;
  is_dummy = λ x. is_among x (dummies_of unit);
  is_bad_block = λ b. is_among b (gathered blocks_by unit) && is_bad_in earlier unit b;
}

abbrev pub names_twice : Facts → Done → Stmt → Given → Bool
names_twice facts done s given =
    does_twice done s given || list_any facts.is_dummy given.commons
    || is_among facts.own (dummies_by s ++ given.typed ++ given.dimensioned ++ given.commons)

abbrev pub has_untyped : Scope → List Name → Bool
has_untyped scope names = list_any (λ x. is_none (scope.sort x)) names

abbrev pub has_bad_shape : Dialect → List Item → Bool
has_bad_shape dialect items = list_any (λ item. is_bad_shape dialect item.dims) items

abbrev pub has_new_bad : (Name → Bool) → List Name → List Name → Bool
has_new_bad is_bad blocks names = list_any (λ b. not (is_among b blocks) && is_bad b) names

abbrev pub is_bad_item : (Name → Bool) → Scope → Item → Bool
is_bad_item is_dummy scope item =
    list_any (λ x. not (is_dummy item.name) || not (is_dummy x && is_integer_scalar scope x)) (names_in_dims item.dims)

abbrev pub first_rule : Bool → Bool → Bool → Bool → Bool → Option Rule
first_rule twice untyped shape block adjustable =
    cond twice (Some NameTwice)
    (cond untyped (Some ImplicitReal)
    (cond shape (Some BadDimension)
    (cond block (Some BlocksDiffer)
    (cond adjustable (Some BadAdjustable) None))))

-- the first of the rules on declarations that a statement breaks, by what the ones before it have done,
-- and by the blocks that they declare
abbrev pub name_rule : Dialect → Facts → Done → List Name → Stmt → Option Rule
name_rule dialect facts done blocks s =
    first_rule (names_twice facts done s (given_of s)) (has_untyped facts.scope (names_in s)) (has_bad_shape dialect (items_by s))
    (has_new_bad facts.is_bad_block blocks (blocks_by s)) (list_any (is_bad_item facts.is_dummy facts.scope) (items_by s))

-- the first fault of statements by these rules, behind others of their unit
abbrev pub name_scan : Dialect → Facts → Done → List Name → List Line → Option Fault
name_scan dialect facts done blocks [] = None
name_scan dialect facts done blocks (line ∷ lines) =
    fault_or (name_rule dialect facts done blocks line.stmt) line.card
    (name_scan dialect facts (done_with done line.stmt (given_of line.stmt)) (with_names blocks (blocks_by line.stmt)) lines)
