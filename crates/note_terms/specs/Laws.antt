-- Laws of the terms of notes.
use Rattle.std.specs.Prelude.{ℕ, ◌≡◌, Bool, true, List, map}
use Rattle.formula.specs.Atoms.{is_among}
use Rattle.formula.specs.Tree.{Tree}
use Rattle.formula.specs.declared.node.Node.{Node}
use Rattle.formula.specs.declared.node.TermId.{TermId}
use Rattle.fort_syntax.specs.Names.{data_name, has_role}
use Rattle.fort_syntax.specs.declared.unit.Role.{Role}
use Rattle.fort_syntax.specs.declared.unit.Unit.{Unit as Routine}
use Rattle.fort_model.specs.Fitting.{any_role, has_entry as may_have_entry, terms_fit}
use Rattle.fort_model.specs.Conditions.{sight}
use Rattle.fort_model.specs.Program.{Program}
use Rattle.fort_model.specs.Seen.{Named}
use Rattle.fort_model.specs.Senses.{of_terms, note}
use Rattle.fort_model.specs.Walk.{bound_facts, falls as falls_on, not_negative as not_negative_on}
use Rattle.walk_names.specs.declared.names.Names.{Names}
use Rattle.walk_names.specs.Names.{named, named_by}
use Rattle.note_terms.specs.Stated.{has_entry, are_known_terms, at_least_0, facts_of_bound, falls_in, stated}

-- a table has all data names of a unit
abbrev pub HasDataNames : Routine → List (List ℕ) → Type 0
HasDataNames u table = (x : List ℕ) → has_role any_role (data_name u x) ≡ true → is_among x table ≡ true

-- it has entry terms for them
abbrev pub HasEntryTerms : Routine → List (List ℕ) → List TermId → Type 0
HasEntryTerms u table entry = (x : List ℕ) → has_role any_role (data_name u x) ≡ true → has_entry table entry x ≡ true

-- terms that fit a unit, whose entry values are such as may stand in OUTPUT and ASSERTs, or none
abbrev pub FittingTermsAreKnown : Type 0
FittingTermsAreKnown =
    (u : Routine) (is : Role → Bool) (entries : List ℕ → Bool) (table : List (List ℕ)) (entry : List TermId) (ts : List Tree)
    → HasDataNames u table → HasEntryTerms u table entry → ((x : List ℕ) → entries x ≡ true
    → may_have_entry u x ≡ true) → terms_fit u is entries ts
    → are_known_terms table entry ts ≡ true

-- names that stand for the same make the same terms
abbrev pub StatedByNames : Type 0
StatedByNames =
    (nodes : List Node) (names : Names) (entry : List TermId) (before now : Named Tree) (ts : List Tree)
    → named_by nodes names.table entry ≡ before → named nodes names ≡ now → map (stated nodes names entry) ts
    ≡ map (note of_terms before now) ts

-- what is made is what walks in the sense of terms meet
pub record AreOfWalk (p : Program) (i : ℕ) (u : Routine) : Type 0 where
  pub bound : facts_of_bound p.bound ≡ bound_facts (sight of_terms p i u)
  pub not_negative : (t : Tree) → at_least_0 t ≡ not_negative_on (sight of_terms p i u) t
  pub falls : (new old : List Tree) → falls_in new old ≡ falls_on (sight of_terms p i u) new old

abbrev pub FactsAreThoseOfWalks : Type 0
FactsAreThoseOfWalks = (p : Program) (i : ℕ) (u : Routine) → AreOfWalk p i u
