-- What names stand for where a path starts at an ASSERT, and what is taken of dimensions.
use Rattle.std.specs.Prelude.{◌≡◌, ℕ, cond, List, [], ◌∷◌}
use Rattle.formula.specs.Atoms.{is_among}
use Rattle.formula.specs.Tree.{Tree, symbol}
use Rattle.formula.specs.declared.function.BuiltIn.TheVariants.{AtMost}
use Rattle.formula.specs.declared.node.Node.{Node}
use Rattle.fort_syntax.specs.declared.name.Name.{Name}
use Rattle.fort_syntax.specs.declared.unit.Unit.{Unit as Routine}
use Rattle.fort_model.specs.Conditions.{sight}
use Rattle.fort_model.specs.Program.{Program, smashed_names}
use Rattle.fort_model.specs.Seen.{Named}
use Rattle.fort_model.specs.Senses.{of_terms, make2, natural, is_defined}
use Rattle.fort_model.specs.Symbols.{AtStart, word_of}
use Rattle.fort_model.specs.Walk.{at_entry, at_start, dim_facts}
use Rattle.walk_names.specs.declared.names.Names.{Names}
use Rattle.walk_names.specs.Names.{Extends, IsNames, named, past}

-- some names stand for symbols of their own, and the others for what they stood for
abbrev pub started : List Name → Named Tree → Named Tree
started xs now x = cond (is_among x xs) (symbol (word_of (AtStart x))) (now x)

-- a number is at least 1
abbrev pub at_least_1 : Tree → Tree
at_least_1 t = make2 of_terms AtMost (natural of_terms 1) t

-- dimensions are defined and at least 1
abbrev pub facts_of_dims : Named Tree → List Name → List Tree
facts_of_dims now [] = []
facts_of_dims now (x ∷ xs) = is_defined of_terms (now x) ∷ at_least_1 (now x) ∷ facts_of_dims now xs

-- names were started: some of them stand for symbols of their own
pub record IsStarted (old_nodes : List Node) (old : Names) (new_nodes : List Node) (new : Names) (xs : List Name) : Type 0 where
  pub kept : IsNames new_nodes new
  pub now : named new_nodes new ≡ started xs (named old_nodes old)
  pub before : past new_nodes new ≡ past old_nodes old
  pub extends : Extends old.table new.table

-- ---- laws

-- names that stood for what they do at the entry stand for what they do at an ASSERT, where those were started
-- that the unit smashes
abbrev pub StartedAreAtStart : Type 0
StartedAreAtStart =
    (p : Program) (i : ℕ) (u : Routine) (now : Named Tree) → now ≡ at_entry (sight of_terms p i u)
    → started (smashed_names p i) now ≡ at_start (sight of_terms p i u)

-- what is taken of dimensions is what walks in the sense of terms take
abbrev pub DimFactsAreThoseOfWalks : Type 0
DimFactsAreThoseOfWalks =
    (p : Program) (i : ℕ) (u : Routine) (now : Named Tree) (xs : List Name) → now ≡ at_entry (sight of_terms p i u)
    → facts_of_dims now xs ≡ dim_facts (sight of_terms p i u) xs
