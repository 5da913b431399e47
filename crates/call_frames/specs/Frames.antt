-- What the names of a called unit stand for.
use Rattle.std.specs.Prelude.{◌≡◌, ℕ, Bool, true, not, cond, List, [], ◌∷◌, ◌++◌, length}
use Rattle.formula.specs.Atoms.{is_among, same_bytes}
use Rattle.formula.specs.Pool.{AllBelow}
use Rattle.formula.specs.Tree.{Tree}
use Rattle.formula.specs.declared.node.Node.{Node}
use Rattle.formula.specs.declared.node.TermId.{TermId}
use Rattle.fort_model.specs.Seen.{Named}
use Rattle.fort_model.specs.Senses.{of_terms, undefined}
use Rattle.fort_model.specs.WalkStmt.{with_name}
use Rattle.fort_syntax.specs.Names.{data_name, has_common, has_role, is_local}
use Rattle.fort_syntax.specs.declared.name.Name.{Name}
use Rattle.fort_syntax.specs.declared.unit.DataName.{DataName}
use Rattle.fort_syntax.specs.declared.unit.Role.{Role}
use Rattle.fort_syntax.specs.declared.unit.Unit.{Unit as Routine}
use Rattle.note_terms.specs.Stated.{has_entry}
use Rattle.walk_names.specs.declared.names.Names.{Names}
use Rattle.walk_names.specs.Names.{Extends, IsNames, named, named_by}
use Rattle.call_frames.specs.declared.frame.Frame.{Frame}

-- ---- the names that INPUT and OUTPUT may speak of: dummies, COMMON entities, and the value of a FUNCTION

abbrev pub is_shared_role : Role → Bool
is_shared_role role = not (is_local role)

abbrev pub is_shared : Routine → Name → Bool
is_shared g x = has_role is_shared_role (data_name g x)

-- a data name, where it is such a one
abbrev pub shared_in : DataName → List Name
shared_in d = cond (is_shared_role d.role) (d.name ∷ []) []

abbrev pub all_shared : List DataName → List Name
all_shared [] = []
all_shared (d ∷ ds) = shared_in d ++ all_shared ds

-- ---- what they stand for

-- the unit's own name for the value of the function, and a COMMON entity for what it is to the caller
abbrev pub own_of : Routine → Named Tree → Tree → Named Tree
own_of g now value x = cond (same_bytes g.name x) value (cond (has_common g x) (now x) (undefined of_terms))

-- dummies stand for actuals, in order; every other name for what it did
abbrev pub with_terms : List Name → List Tree → Named Tree → Named Tree
with_terms [] ts other x = other x
with_terms (d ∷ ds) [] other x = other x
with_terms (d ∷ ds) (t ∷ ts) other x = cond (same_bytes d x) t (with_terms ds ts other x)

-- all names of a called unit
abbrev pub told_by : Routine → List Tree → Named Tree → Tree → Named Tree
told_by g actuals now value = with_terms g.dummies actuals (own_of g now value)

-- some names stand for something else
abbrev pub filled : List Name → Named Tree → Named Tree → Named Tree
filled xs own before x = cond (is_among x xs) (own x) (before x)

-- ---- steps

-- one name was put
pub record IsPut (old_nodes : List Node) (old : Names) (new_nodes : List Node) (new : Names) (x : Name) (t : Tree) : Type 0 where
  pub kept : IsNames new_nodes new
  pub now : named new_nodes new ≡ with_name (named old_nodes old) x t
  pub known : is_among x new.table ≡ true
  pub extends : Extends old.table new.table

-- some names were put, each for its own term
pub record IsFilled (old_nodes : List Node) (old : Names) (new_nodes : List Node) (new : Names) (xs : List Name)
    (own : Named Tree) : Type 0 where
  pub kept : IsNames new_nodes new
  pub now : named new_nodes new ≡ filled xs own (named old_nodes old)
  pub known : (x : Name) → is_among x xs ≡ true → is_among x new.table ≡ true
  pub extends : Extends old.table new.table

-- dummies were put for actuals
pub record IsPlaced (old_nodes : List Node) (old : Names) (new_nodes : List Node) (new : Names) (ds : List Name)
    (ts : List Tree) : Type 0 where
  pub kept : IsNames new_nodes new
  pub now : named new_nodes new ≡ with_terms ds ts (named old_nodes old)
  pub extends : Extends old.table new.table

-- ---- frames

-- names are those of a unit: its names that notes may speak of are known, and stand for what is told
pub record IsFrame (nodes : List Node) (names : Names) (g : Routine) (told : Named Tree) : Type 0 where
  pub kept : IsNames nodes names
  pub known : (x : Name) → is_shared g x ≡ true → is_among x names.table ≡ true
  pub tells : (x : Name) → is_shared g x ≡ true → named nodes names x ≡ told x

-- a table that had some names has been filled
pub record Fills (old : List (List ℕ)) (nodes : List Node) (names : Names) (g : Routine) (told : Named Tree) : Type 0 where
  pub frame : IsFrame nodes names g told
  pub extends : Extends old names.table

-- the terms at the entry tell these names too
pub record HasEntry (nodes : List Node) (table : List (List ℕ)) (entry : List TermId) (g : Routine)
    (told : Named Tree) : Type 0 where
  pub below : AllBelow (length nodes) entry
  pub known : (x : Name) → is_shared g x ≡ true → has_entry table entry x ≡ true
  pub tells : (x : Name) → is_shared g x ≡ true → named_by nodes table entry x ≡ told x

-- at the entry
pub record Enters (nodes : List Node) (frame : Frame) (g : Routine) (told : Named Tree) : Type 0 where
  pub names : IsFrame nodes frame.names g told
  pub entry : HasEntry nodes frame.names.table frame.entry.items g told
