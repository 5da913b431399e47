-- What the tables of a unit tell of the uses of its names.
use Rattle.std.specs.Prelude.{◌&&◌, ◌||◌, not, Bool}
use Rattle.formula.specs.Atoms.{same_bytes, is_among}
use Rattle.fort_syntax.specs.declared.name.Name.{Name}
use Rattle.unit_scope.specs.Scoping.{scope_by}
use Rattle.use_faults.specs.UseScans.{UseFacts, has_label_in}
use Rattle.use_faults.specs.declared.use_rules.Roles.{Roles}

-- a name of a unit is data
abbrev pub is_data_by : Roles → Name → Name → Bool
is_data_by r own x =
    is_among x r.names
    && (is_among x r.dummies || is_among x r.commons || (r.function && same_bytes x own) || not (is_among x r.references))

abbrev pub use_facts_by : Roles → Name → UseFacts
use_facts_by r own = record {
  own = own;
  is_function = r.function;
  scope = scope_by r.scope;
  is_dummy = λ x. is_among x r.dummies;
  is_common = λ x. is_among x r.commons;
  is_data = is_data_by r own;
  has_line = has_label_in r.lines;
  is_assigned = r.assigned;
}
