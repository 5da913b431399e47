-- The parts of a unit, as its tables tell them.
use Rattle.std.specs.Prelude.{◌&&◌, ◌||◌, not, Bool, cond, List, map, Option, Some, None}
use Rattle.formula.specs.Atoms.{same_bytes, is_among}
use Rattle.fort_syntax.specs.Scopes.{Scope, kept, is_intrinsic_name}
use Rattle.fort_syntax.specs.Units.{sort_or_integer, block_of_name}
use Rattle.fort_syntax.specs.declared.dialect.Sort.{Sort}
use Rattle.fort_syntax.specs.declared.name.Name.{Name}
use Rattle.fort_syntax.specs.declared.stmt.Group.{Group}
use Rattle.fort_syntax.specs.declared.stmt.Item.{Item}
use Rattle.fort_syntax.specs.declared.unit.DataName.{DataName}
use Rattle.fort_syntax.specs.declared.unit.FunctionName.{FunctionName}
use Rattle.fort_syntax.specs.declared.unit.Role.{Role}
use Rattle.fort_syntax.specs.declared.unit.Role.TheVariants.{Dummy, InCommon, OwnValue, Local}
use Rattle.use_faults.specs.declared.use_rules.Roles.{Roles}
use Rattle.decl_faults.specs.Commons.{listed}
use Rattle.unit_scope.specs.Scoping.{scope_by}

-- a name is data whatever it is used as
abbrev pub is_held_in : Roles → Name → Name → Bool
is_held_in r own x = is_among x r.dummies || is_among x r.commons || (r.function && same_bytes x own)

abbrev pub is_data_in : Roles → Name → Name → Bool
is_data_in r own x = is_held_in r own x || not (is_among x r.references)

abbrev pub role_in : Roles → Name → Name → Role
role_in r own x =
    cond (is_among x r.dummies) Dummy
    (cond (is_among x r.commons) InCommon
    (cond (r.function && same_bytes x own) OwnValue Local))

abbrev pub data_name_in : Roles → Name → Name → DataName
data_name_in r own x = record {
  name = x;
  sort = sort_or_integer ((scope_by r.scope).sort x);
  dims = (scope_by r.scope).dims x;
  role = role_in r own x;
}

abbrev pub data_names_in : Roles → Name → List Name → List DataName
data_names_in r own names = map (data_name_in r own) (kept (is_data_in r own) names)

abbrev pub function_name_in : Scope → Name → FunctionName
function_name_in scope f = record { name = f; sort = sort_or_integer (scope.sort f) }

abbrev pub functions_in : Scope → List Name → List FunctionName
functions_in scope names = map (function_name_in scope) (kept (λ f. not (is_intrinsic_name f)) names)

-- the type of a FUNCTION
abbrev pub sort_in : Roles → Name → Option Sort
sort_in r own = cond r.function (Some (sort_or_integer ((scope_by r.scope).sort own))) None

abbrev pub item_in : Scope → Name → Item
item_in scope x = record { name = x; dims = scope.dims x }

abbrev pub group_in : Scope → List (Name × List Name) → Name → Group
group_in scope table b = record { block = block_of_name b; items = map (item_in scope) (listed table b) }
