-- Terms put for the symbols of a term, and for their entry values, all at once.
use Rattle.std.specs.Prelude.{ℕ, ◌≡◌, ◌||◌, ◌&&◌, Bool, false, List, [], ◌∷◌, Option, Some, None, Contains, codes, slice_index_or, if◌then◌else◌}
use Rattle.std.specs.List.{AllZip}
use Rattle.formula.specs.declared.node.Node.{Node}
use Rattle.formula.specs.declared.node.TermId.{TermId}
use Rattle.formula.specs.declared.substitution.Binding.{Binding}
use Rattle.formula.specs.declared.replacement.Image.{Image}
use Rattle.formula.specs.declared.replacement.Replacement.{Replacement}
use Rattle.formula.specs.declared.replacement.Table.{Table}
use Rattle.formula.specs.Atoms.{same_bytes}
use Rattle.formula.specs.Tree.{Tree, num, truth, symbol, old, apply, Row, none, more}
use Rattle.formula.specs.Pool.{IsIn, tree_of}

abbrev mutual
  -- a tree in which a symbol gives way to `symbols` of its name, and its entry value to `entries`
  pub substituted : (symbols : List ℕ → Tree) → (entries : List ℕ → Tree) → Tree → Tree
  substituted symbols entries (num z) = num z
  substituted symbols entries (truth b) = truth b
  substituted symbols entries (symbol name) = symbols name
  substituted symbols entries (old name) = entries name
  substituted symbols entries (apply f row) = apply f (row_substituted symbols entries row)

  pub row_substituted : (symbols : List ℕ → Tree) → (entries : List ℕ → Tree) → Row → Row
  row_substituted symbols entries none = none
  row_substituted symbols entries (more t rest) = more (substituted symbols entries t) (row_substituted symbols entries rest)

-- the first binding of a name
abbrev pub binding_of : List Binding → List ℕ → Option TermId
binding_of [] name = None
binding_of (b ∷ rest) name = if same_bytes b.name name then Some b.term else binding_of rest name

abbrev pub tree_or : List Node → Option TermId → Tree → Tree
tree_or pool None t = t
tree_or pool (Some id) t = tree_of pool id

-- what a name stands for: the term that is found for it, or what it is itself
abbrev pub put_for : List Node → (List ℕ → Option TermId) → (List ℕ → Tree) → List ℕ → Tree
put_for pool found itself name = tree_or pool (found name) (itself name)

-- a tree where a symbol gives way to what is found for it among some terms, and its entry value to what is found among others
abbrev pub replaced : List Node → (List ℕ → Option TermId) → (List ℕ → Option TermId) → Tree → Tree
replaced pool symbols entries = substituted (put_for pool symbols symbol) (put_for pool entries old)

-- what a name of some bindings stands for
abbrev pub bound : List Node → List Binding → (List ℕ → Tree) → List ℕ → Tree
bound pool bindings = put_for pool (binding_of bindings)

-- the terms of the bindings are of the pool
abbrev pub AreIn : List Node → List Binding → Type 0
AreIn pool [] = Unit {0}
AreIn pool (b ∷ rest) = IsIn pool b.term × AreIn pool rest

-- a tree under two lists of bindings
abbrev pub under : List Node → List Binding → List Binding → Tree → Tree
under pool symbols entries = replaced pool (binding_of symbols) (binding_of entries)

-- the term that stands where a name stands in a table, where there is one
abbrev pub term_named : List (List ℕ) → List TermId → List ℕ → Option TermId
term_named [] terms name = None
term_named (n ∷ names) [] name = None
term_named (n ∷ names) (t ∷ terms) name = if same_bytes name n then Some t else term_named names terms name

-- LEAST and GREATEST are the bounds of the integers, whatever else is named so
abbrev pub is_bound : List ℕ → Bool
is_bound name = same_bytes (codes "LEAST") name || same_bytes (codes "GREATEST") name

-- the present term of a name
abbrev pub present_term : List (List ℕ) → List TermId → List ℕ → Option TermId
present_term names now name = if is_bound name then None else term_named names now name

-- a tree where each symbol that is a name of a table gives way to its present term, and its entry value to its entry term
abbrev pub under_names : List Node → List (List ℕ) → List TermId → List TermId → Tree → Tree
under_names pool names now entry = replaced pool (present_term names now) (term_named names entry)

-- ---- how it is computed

-- what is found for a name, where the bounds may stay
abbrev pub found_in : Table → List ℕ → Option TermId
found_in table name = if table.bounds_stay && is_bound name then None else term_named table.names.now table.terms.now name

abbrev pub changed : List Node → Replacement → Tree → Tree
changed pool by = replaced pool (found_in by.symbols) (found_in by.entries)

-- a term of the pool as it was, and the term of the pool that it became
pub record IsImage (pool : List Node) (change : Tree → Tree) (first : List Node) (image : Image) : Type 0 where
  pub known : IsIn first image.id
  pub made : IsIn pool image.made
  pub tree : tree_of pool image.made ≡ change (tree_of first image.id)

-- it is known what an id became
abbrev pub HasImage : List Image → TermId → Type 0
HasImage images id = (made : TermId) × Contains images (record { id = id; made = made })

-- what some ids became
abbrev pub AreImages : List Image → List TermId → List TermId → Type 0
AreImages images = AllZip (λ id made. Contains images (record { id = id; made = made }))

-- a place is set
abbrev pub is_marked : List Bool → ℕ → Bool
is_marked marks place = slice_index_or marks place false
