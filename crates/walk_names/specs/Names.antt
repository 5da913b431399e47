-- The terms that names stand for on a walk, and those that they stood for before.
use Rattle.std.specs.Prelude.{◌≡◌, ℕ, ◌<◌, List, [], ◌∷◌, ◌++◌, length, slice_set}
use Rattle.formula.specs.declared.node.Node.{Node}
use Rattle.formula.specs.declared.node.TermId.{TermId}
use Rattle.formula.specs.Pool.{AllBelow}
use Rattle.formula.specs.Substitution.{term_named, tree_or}
use Rattle.formula.specs.Tree.{Tree, symbol}
use Rattle.fort_model.specs.Symbols.{AtEntry, word_of}
use Rattle.fort_model.specs.Seen.{Named}
use Rattle.fort_model.specs.WalkStmt.{with_name}
use Rattle.walk_names.specs.declared.names.Logged.{Logged}
use Rattle.walk_names.specs.declared.names.Logged.TheVariants.{Mark, Was}
use Rattle.walk_names.specs.declared.names.Names.{Names}

-- each name stands for the symbol of its value at the entry
abbrev pub entry_of : Named Tree
entry_of x = symbol (word_of (AtEntry x))

-- what names stand for by a table and its terms
abbrev pub named_by : List Node → List (List ℕ) → List TermId → Named Tree
named_by nodes table ids x = tree_or nodes (term_named table ids x) (entry_of x)

-- what names stand for
abbrev pub named : List Node → Names → Named Tree
named nodes names = named_by nodes names.table names.terms.items

-- what names stood for at each mark of a log, the last mark first
abbrev pub pasts : List Node → List (List ℕ) → List TermId → List Logged → List (Named Tree)
pasts nodes table ids [] = []
pasts nodes table ids (Mark ∷ log) = named_by nodes table ids ∷ pasts nodes table ids log
pasts nodes table ids (Was place id ∷ log) = pasts nodes table (slice_set ids place id) log

abbrev pub past : List Node → Names → List (Named Tree)
past nodes names = pasts nodes names.table names.terms.items names.log

-- the entries of a log are of so many terms, and of a pool of so many nodes
abbrev pub AreLogged : ℕ → ℕ → List Logged → Type 0
AreLogged nodes terms [] = Unit {0}
AreLogged nodes terms (Mark ∷ log) = AreLogged nodes terms log
AreLogged nodes terms (Was place id ∷ log) = ((place < terms) × (id.place < nodes)) × AreLogged nodes terms log

-- each name of the table has a term of the pool
pub record IsNames (nodes : List Node) (names : Names) : Type 0 where
  pub count : length names.table ≡ length names.terms.items
  pub terms : AllBelow (length nodes) names.terms.items
  pub log : AreLogged (length nodes) (length names.terms.items) names.log

-- names were added to a table
pub record Extends (old new : List (List ℕ)) : Type 0 where
  pub added : List (List ℕ)
  pub is : new ≡ old ++ added

-- all names stand for what they stood for, and stood for what they stood for
pub record IsSame (old_nodes : List Node) (old : Names) (new_nodes : List Node) (new : Names) : Type 0 where
  pub kept : IsNames new_nodes new
  pub now : named new_nodes new ≡ named old_nodes old
  pub before : past new_nodes new ≡ past old_nodes old
  pub extends : Extends old.table new.table

-- one name stands for something new
pub record IsSet (old_nodes : List Node) (old : Names) (new_nodes : List Node) (new : Names) (x : List ℕ)
    (t : Tree) : Type 0 where
  pub kept : IsNames new_nodes new
  pub now : named new_nodes new ≡ with_name (named old_nodes old) x t
  pub before : past new_nodes new ≡ past old_nodes old
  pub extends : Extends old.table new.table

-- what names stand for was marked
pub record IsKept (nodes : List Node) (old new : Names) : Type 0 where
  pub kept : IsNames nodes new
  pub now : named nodes new ≡ named nodes old
  pub before : past nodes new ≡ named nodes old ∷ past nodes old
  pub table : new.table ≡ old.table

-- names stand for what they stood for at the last mark
pub record IsBack (nodes : List Node) (old new : Names) (told : Named Tree) (earlier : List (Named Tree)) : Type 0 where
  pub kept : IsNames nodes new
  pub now : named nodes new ≡ told
  pub before : past nodes new ≡ earlier
  pub table : new.table ≡ old.table
