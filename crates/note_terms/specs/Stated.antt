-- The terms of notes along a path, and terms that are put behind others.
use Rattle.std.specs.Prelude.{ℕ, ◌≡◌, ◌||◌, Bool, List, [], ◌∷◌, length, map, neg_ℤ, pos, is_some}
use Rattle.std.specs.List.{list_all}
use Rattle.formula.specs.Atoms.{is_among}
use Rattle.formula.specs.Pool.{AllBelow, Grows, tree_of}
use Rattle.formula.specs.Substitution.{is_bound, term_named}
use Rattle.formula.specs.TermTests.{names_pass}
use Rattle.formula.specs.Tree.{Tree, num, truth}
use Rattle.formula.specs.declared.function.BuiltIn.TheVariants.{And, Or, Less, AtMost}
use Rattle.formula.specs.declared.node.Node.{Node}
use Rattle.formula.specs.declared.node.TermId.{TermId}
use Rattle.fort_model.specs.Senses.{of_terms, make2, natural, least_integer, greatest_integer, note}
use Rattle.walk_names.specs.declared.names.Names.{Names}
use Rattle.walk_names.specs.Names.{named, named_by}

-- the trees of ids
abbrev pub trees_in : List Node → List TermId → List Tree
trees_in nodes ids = map (tree_of nodes) ids

-- ---- notes

-- a table tells a name: it is a bound, or one of the table's
abbrev pub is_told : List (List ℕ) → List ℕ → Bool
is_told table x = is_bound x || is_among x table

-- a table has an entry term for a name
abbrev pub has_entry : List (List ℕ) → List TermId → List ℕ → Bool
has_entry table entry x = is_some (term_named table entry x)

-- all names of a term are told, and the entry terms of those whose entry values stand in it
abbrev pub is_known_term : List (List ℕ) → List TermId → Tree → Bool
is_known_term table entry t = names_pass (is_told table) (has_entry table entry) t

-- all names of some terms
abbrev pub are_known_terms : List (List ℕ) → List TermId → List Tree → Bool
are_known_terms table entry ts = list_all (is_known_term table entry) ts

-- a term of a note, where names stand for what they do now, and for their entry terms at the entry
abbrev pub stated : List Node → Names → List TermId → Tree → Tree
stated nodes names entry t = note of_terms (named_by nodes names.table entry) (named nodes names) t

-- (ZLEQ 0 t)
abbrev pub at_least_0 : Tree → Tree
at_least_0 t = make2 of_terms AtMost (natural of_terms 0) t

-- (OR (ZLESSP n o) (AND (ZLEQ n o) t))
abbrev pub below : Tree → Tree → Tree → Tree
below n o t = make2 of_terms Or (make2 of_terms Less n o) (make2 of_terms And (make2 of_terms AtMost n o) t)

-- new parts of a clock are lexicographically below old ones, as on each walk in the sense of terms
abbrev pub falls_in : List Tree → List Tree → Tree
falls_in (n ∷ []) (o ∷ []) = make2 of_terms Less n o
falls_in (n ∷ (m ∷ ns)) (o ∷ (q ∷ os)) = below n o (falls_in (m ∷ ns) (q ∷ os))
falls_in _ _ = truth Bool.false

-- the processor has the integers up to a bound
abbrev pub facts_of_bound : ℕ → List Tree
facts_of_bound n =
    make2 of_terms AtMost (least_integer of_terms) (num (neg_ℤ (pos n)))
    ∷ make2 of_terms AtMost (natural of_terms n) (greatest_integer of_terms)
    ∷ []

-- ---- lists of terms

-- ids of these terms were made, and terms for them
pub record Makes (old new : List Node) (ids : List TermId) (made : List Tree) : Type 0 where
  pub grows : Grows old new
  pub known : AllBelow (length new) ids
  pub is : trees_in new ids ≡ made
