-- What one pass over the statements of a unit finds of the uses of its names and labels.
use Rattle.std.specs.Prelude.{ℕ, ◌==◌, ◌&&◌, ◌||◌, not, Bool, true, false, cond, List, [], ◌∷◌, map, Option, Some, None}
use Rattle.std.specs.List.{list_any}
use Rattle.formula.specs.Atoms.{same_bytes, is_among}
use Rattle.fort_syntax.specs.CardRules.{fault_or}
use Rattle.fort_syntax.specs.Scopes.{Scope, kept}
use Rattle.fort_syntax.specs.TypeRules.{all_plain_subscripts}
use Rattle.fort_syntax.specs.Units.{Segment, class_of, is_performing, gathered, executables, own_name, is_function_segment, dummies_of, commons_of, scope_of, data_names, is_called, is_reference, references_in}
use Rattle.fort_syntax.specs.Uses.{Occurrence, uses_of, used_labels}
use Rattle.fort_syntax.specs.UseRules.{is_misused, is_bare, wants_plain_subscripts, has_label, assigns}
use Rattle.fort_syntax.specs.UnitRules.{fault_before}
use Rattle.fort_syntax.specs.declared.dialect.Dialect.{Dialect}
use Rattle.fort_syntax.specs.declared.name.Name.{Name}
use Rattle.fort_syntax.specs.declared.refusal.Fault.{Fault}
use Rattle.fort_syntax.specs.declared.rule.Rule.{Rule}
use Rattle.fort_syntax.specs.declared.rule.Rule.TheVariants.{BadUse, BadSubscript, LabelTwice, NoLabel, BadResult}
use Rattle.fort_syntax.specs.declared.unit.Line.{Line}
use Rattle.name_tables.specs.Labels.{with_label, is_known}
use Rattle.name_tables.specs.Sets.{with_names}
use Rattle.use_faults.specs.declared.used.Used.{Used}

-- what is known of a unit: its own name, whether it is a FUNCTION, what its declarations say of names,
-- which names are dummies, in COMMON, or data, which labels executable statements have, and whether the
-- own name is assigned
pub record UseFacts : Type 0 where
  pub own : Name
  pub is_function : Bool
  pub scope : Scope
  pub is_dummy : Name → Bool
  pub is_common : Name → Bool
  pub is_data : Name → Bool
  pub has_line : ℕ → Bool
  pub is_assigned : Bool

abbrev pub use_facts_of : Segment → UseFacts
use_facts_of unit = record {
  own = own_name unit;
  is_function = is_function_segment unit;
  scope = scope_of unit;
  is_dummy = λ x. is_among x (dummies_of unit);
  is_common = λ x. is_among x (commons_of unit);
  is_data = λ x. is_among x (data_names unit);
  has_line = λ label. has_label label (executables unit);
  is_assigned = assigns (own_name unit) (gathered uses_of unit);
}

-- a set of labels with those of the executable ones of some statements
abbrev pub lines_from : List ℕ → List Line → List ℕ
lines_from labels [] = labels
lines_from labels (line ∷ lines) = lines_from (cond (is_performing (class_of line.stmt))
    (with_label labels line.label) labels) lines

abbrev pub assigned_from : Name → List Line → Bool
assigned_from own [] = false
assigned_from own (line ∷ lines) = assigns own (uses_of line.stmt) || assigned_from own lines

-- a dummy or a COMMON entity is used as a function; a CALL names a data name; the own name of a
-- SUBROUTINE is used otherwise than by a CALL
abbrev pub is_of_other_kind : UseFacts → Occurrence → Bool
is_of_other_kind facts o =
    (is_reference facts.scope o && (facts.is_dummy o.name || facts.is_common o.name))
    || (is_called o.«use» && facts.is_data o.name)
    || (not (is_called o.«use») && not facts.is_function && same_bytes o.name facts.own)

-- the names that stand as scalars
abbrev pub bares_in : List Occurrence → List Name
bares_in uses = map (λ o. o.name) (kept (λ o. is_bare o.«use») uses)

abbrev pub nothing_used : Used
nothing_used = record { references = []; bares = []; labels = [] }

-- what some statements have used, with the names in one more and its label
abbrev pub used_with : Scope → Used → List Occurrence → ℕ → Used
used_with scope used uses label = record {
  references = with_names used.references (references_in scope uses);
  bares = with_names used.bares (bares_in uses);
  labels = with_label used.labels label;
}

abbrev pub is_both : Used → Name → Bool
is_both used x = is_among x used.references && is_among x used.bares

-- a name of a statement is used as what it is not, where the statements up to it have used so much
abbrev pub is_bad_use : UseFacts → Used → Occurrence → Bool
is_bad_use facts used o = is_misused facts.scope o.name o.«use» || is_of_other_kind facts o || is_both used o.name

abbrev pub has_bad_use : UseFacts → Used → List Occurrence → Bool
has_bad_use facts used uses = list_any (is_bad_use facts used) uses

abbrev pub has_label_in : List ℕ → ℕ → Bool
has_label_in labels label = not (label == 0) && is_known label labels

abbrev pub lacks_label : (ℕ → Bool) → List ℕ → Bool
lacks_label has_line labels = list_any (λ label. not (has_line label)) labels

abbrev pub first_use_rule : Bool → Bool → Bool → Bool → Bool → Option Rule
first_use_rule use_broken subscript twice missing result =
    cond use_broken (Some BadUse)
    (cond subscript (Some BadSubscript)
    (cond twice (Some LabelTwice)
    (cond missing (Some NoLabel)
    (cond result (Some BadResult) None))))

-- the first of the rules on uses that a statement breaks, by what the ones before it have used
abbrev pub use_rule : Dialect → UseFacts → Bool → Used → Line → Option Rule
use_rule dialect facts first used line =
    first_use_rule (has_bad_use facts (used_with facts.scope used (uses_of line.stmt) line.label) (uses_of line.stmt))
    (wants_plain_subscripts dialect && not (all_plain_subscripts facts.scope line.stmt))
    (has_label_in used.labels line.label)
    (lacks_label facts.has_line (used_labels line.stmt))
    (first && facts.is_function && not facts.is_assigned)

-- the first fault of statements by these rules, behind others of their unit
abbrev pub use_scan : Dialect → UseFacts → Bool → Used → List Line → Option Fault
use_scan dialect facts first used [] = None
use_scan dialect facts first used (line ∷ lines) =
    fault_or (use_rule dialect facts first used line) line.card
    (use_scan dialect facts false (used_with facts.scope used (uses_of line.stmt) line.label) lines)

-- the first fault of units by these rules
abbrev pub use_scans : Dialect → List Segment → Option Fault
use_scans dialect [] = None
use_scans dialect (unit ∷ units) =
    fault_before (use_scan dialect (use_facts_of unit) true nothing_used unit) (use_scans dialect units)
