-- What the data names of a unit stand for at its entry.
use Rattle.std.specs.Prelude.{◌≡◌, ◌≤◌, true, cond, List, [], ◌∷◌, length, Option}
use Rattle.std.specs.Option.{IsSome}
use Rattle.formula.specs.Atoms.{is_among}
use Rattle.formula.specs.Pool.{AllBelow, Grows}
use Rattle.formula.specs.Tree.{Tree}
use Rattle.formula.specs.declared.node.Node.{Node}
use Rattle.formula.specs.declared.node.TermId.{TermId}
use Rattle.fort_model.specs.Fitting.{any_role}
use Rattle.fort_model.specs.Seen.{Named}
use Rattle.fort_model.specs.Senses.{of_terms}
use Rattle.fort_model.specs.WalkPlaces.{blank_by, size_if_fixed}
use Rattle.fort_model.specs.WalkStmt.{with_name}
use Rattle.fort_syntax.specs.Names.{data_name_in, dims_of_data, has_role, is_own}
use Rattle.fort_syntax.specs.declared.name.Name.{Name}
use Rattle.fort_syntax.specs.declared.unit.DataName.{DataName}
use Rattle.fort_syntax.specs.declared.unit.Unit.{Unit as Routine}
use Rattle.note_terms.specs.Laws.{HasDataNames, HasEntryTerms}
use Rattle.walk_names.specs.declared.names.Names.{Names}
use Rattle.walk_names.specs.Names.{Extends, IsNames, entry_of, named, named_by, past}
use Rattle.walk_places.specs.Shapes.{IsGoodShape}

-- a name stands for new cells where it is the own data name of a unit, and else for the symbol of its entry value
abbrev pub entry_with : Option DataName → Named Tree
entry_with o x = cond (has_role is_own o) (blank_by of_terms entry_of (dims_of_data o)) (entry_of x)

-- what names stand for at the entry, by data names
abbrev pub at_entry_in : List DataName → Named Tree
at_entry_in ds x = entry_with (data_name_in ds x) x

-- what a data name stands for
abbrev pub value_of : DataName → Tree
value_of d = cond (is_own d.role) (blank_by of_terms entry_of d.dims) (entry_of d.name)

-- the dimensions of a data name have a good shape; they are constants where it gets new cells
pub record HasGoodShape (d : DataName) : Type 0 where
  pub shape : IsGoodShape d.dims
  pub fixed : is_own d.role ≡ true → IsSome (size_if_fixed d.dims)

abbrev pub AreGoodShapes : List DataName → Type 0
AreGoodShapes [] = Unit {0}
AreGoodShapes (d ∷ ds) = HasGoodShape d × AreGoodShapes ds

-- one name, which the table has now, stands for something new
pub record IsOneSet (old_nodes : List Node) (old : Names) (new_nodes : List Node) (new : Names) (x : Name)
    (t : Tree) : Type 0 where
  pub grows : Grows old_nodes new_nodes
  pub kept : IsNames new_nodes new
  pub now : named new_nodes new ≡ with_name (named old_nodes old) x t
  pub before : past new_nodes new ≡ past old_nodes old
  pub extends : Extends old.table new.table
  pub there : is_among x new.table ≡ true

-- a table has all names of some data names
abbrev pub HasNames : List DataName → List Name → Type 0
HasNames ds table = (x : Name) → has_role any_role (data_name_in ds x) ≡ true → is_among x table ≡ true

-- names stand for what they do at the entry
pub record IsEntered (old_nodes : List Node) (old : Names) (new_nodes : List Node) (new : Names)
    (ds : List DataName) : Type 0 where
  pub grows : Grows old_nodes new_nodes
  pub kept : IsNames new_nodes new
  pub now : named new_nodes new ≡ at_entry_in ds
  pub before : past new_nodes new ≡ past old_nodes old
  pub extends : Extends old.table new.table
  pub has : HasNames ds new.table

-- names have all data names of a unit and stand for something now, and terms that stand at the places of its
-- data names are what these stand for at its entry
pub record IsFrame (nodes : List Node) (u : Routine) (names : Names) (entry : List TermId) (now : Named Tree) : Type 0 where
  pub kept : IsNames nodes names
  pub stand : named nodes names ≡ now
  pub has : HasDataNames u names.table
  pub terms : HasEntryTerms u names.table entry
  pub count : length entry ≤ length names.table
  pub below : AllBelow (length nodes) entry
  pub entered : named_by nodes names.table entry ≡ at_entry_in u.names
