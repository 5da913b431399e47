-- The trees of a pool that grows.
use Rattle.std.proofs.Common.{◌≡◌, ℕ, zero, suc, ◌+◌, ◌<◌, ◌≤◌, List, [], ◌∷◌, ◌++◌, length, Some, IsTrue, refl, sym, ap, ◌∙◌, subst, arith, append_assoc, length-append, slice_get, get_or}
use Rattle.std.proofs.lemmas.Grind.{common_steps}
use Rattle.formula.specs.declared.node.Node.{Node}
use Rattle.formula.specs.declared.node.Node.TheVariants.{Num, Truth, Symbol, Old, Apply}
use Rattle.formula.specs.declared.node.TermId.{TermId}
use Rattle.formula.specs.Tree.{Tree, more, apply, takes}
use Rattle.formula.specs.Pool.{AllBelow, HasArguments, HasArgumentsBelow, IsPool, tree_at, row_in, tree_in, grown, trees}

-- ---- more trees

pub tree_at-append : (done rest : List Tree) (place : ℕ) → place < length done → tree_at (done ++ rest) place ≡ tree_at done place
tree_at-append done rest place h = grind (arith, common_steps)

pub row_in-append : (done rest : List Tree) (args : List TermId) → AllBelow (length done) args → row_in (done ++ rest) args ≡ row_in done args
row_in-append done rest [] h = refl
row_in-append done rest (id ∷ args) h = λ i. more (tree_at-append done rest id.place h.0 i) (row_in-append done rest args h.1 i)

pub tree_in-append : (done rest : List Tree) (node : Node) → HasArguments done node → tree_in (done ++ rest) node ≡ tree_in done node
tree_in-append done rest (Num z) h = refl
tree_in-append done rest (Truth b) h = refl
tree_in-append done rest (Symbol s) h = refl
tree_in-append done rest (Old s) h = refl
tree_in-append done rest (Apply f args) h = ap (apply f) (row_in-append done rest args h.0)

pub AllBelow-more : (n m : ℕ) (args : List TermId) → n ≤ m → AllBelow n args → AllBelow m args
AllBelow-more n m [] le h = tt
AllBelow-more n m (id ∷ args) le h =
    let here : id.place < n = h.0 in
    (omega arith, AllBelow-more n m args le h.1)

-- so is the one at a place
pub argument_at : (n : ℕ) (args : List TermId) (k : ℕ) (d : TermId) → AllBelow n args → k < length args → (get_or args k d).place < n
argument_at n [] k d below h = absurd (omega arith)
argument_at n (id ∷ args) zero d below h = below.0
argument_at n (id ∷ args) (suc k) d below h = argument_at n args k d below.1 (omega arith)

pub HasArguments-append : (done rest : List Tree) (node : Node) → HasArguments done node → HasArguments (done ++ rest) node
HasArguments-append done rest (Num z) h = tt
HasArguments-append done rest (Truth b) h = tt
HasArguments-append done rest (Symbol s) h = tt
HasArguments-append done rest (Old s) h = tt
HasArguments-append done rest (Apply f args) h =
    let longer : length done ≤ length (done ++ rest) = simp length-append (omega arith) in
    (AllBelow-more (length done) (length (done ++ rest)) args longer h.0, subst (λ r. IsTrue (takes f r)) (sym (row_in-append done rest args h.0)) h.1)

pub arguments_below : (done : List Tree) (node : Node) → HasArguments done node → HasArgumentsBelow (length done) node
arguments_below done (Num z) h = tt
arguments_below done (Truth b) h = tt
arguments_below done (Symbol s) h = tt
arguments_below done (Old s) h = tt
arguments_below done (Apply f args) h = h.0

-- ---- more nodes

pub IsPool-append : (done : List Tree) (nodes : List Node) (node : Node) → IsPool done nodes → HasArguments (grown done nodes) node → IsPool done (nodes ++ node ∷ [])
IsPool-append done [] node p h = (h, tt)
IsPool-append done (x ∷ nodes) node p h = (p.0, IsPool-append (done ++ tree_in done x ∷ []) nodes node p.1 h)

pub grown-append : (done : List Tree) (nodes rest : List Node) → grown done (nodes ++ rest) ≡ grown (grown done nodes) rest
grown-append done [] rest = refl
grown-append done (x ∷ nodes) rest = grown-append (done ++ tree_in done x ∷ []) nodes rest

-- what is there already stays
pub grown_from : (done : List Tree) (nodes : List Node) → (rest : List Tree) × (grown done nodes ≡ done ++ rest)
grown_from done [] = ([], grind (arith, common_steps))
grown_from done (x ∷ nodes) =
    let t = tree_in done x in
    let r = grown_from (done ++ t ∷ []) nodes in
    (t ∷ r.0, r.1 ∙ append_assoc done (t ∷ []) r.0)

pub length-grown : (done : List Tree) (nodes : List Node) → length (grown done nodes) ≡ length done + length nodes
length-grown done [] = omega arith
length-grown done (x ∷ nodes) =
    let t = tree_in done x in
    let long : length (done ++ t ∷ []) ≡ length done + 1 = simp length-append (omega arith) in
    let rest : length (grown (done ++ t ∷ []) nodes) ≡ length (done ++ t ∷ []) + length nodes = length-grown (done ++ t ∷ []) nodes in
    omega arith

pub length-trees : (nodes : List Node) → length (trees nodes) ≡ length nodes
length-trees nodes = length-grown [] nodes ∙ (let e : 0 + length nodes ≡ length nodes = omega arith in e)

-- ---- the node at a place, and the trees before it

pub record Stands (done : List Tree) (nodes : List Node) (k : ℕ) (node : Node) : Type 0 where
  pub before : List Tree
  pub rest : List Tree
  pub arguments : HasArguments before node
  pub count : length before ≡ length done + k
  pub is : grown done nodes ≡ before ++ tree_in before node ∷ rest

pub stands : (done : List Tree) (nodes : List Node) (k : ℕ) (node : Node) → IsPool done nodes → slice_get nodes k ≡ Some node → Stands done nodes k node
stands done [] k node p h = absurd (cc)
stands done (x ∷ nodes) zero node p h =
    let same : x ≡ node = cc in
    let t = tree_in done x in
    let r = grown_from (done ++ t ∷ []) nodes in
    let whole : grown done (x ∷ nodes) ≡ done ++ t ∷ r.0 = r.1 ∙ append_assoc done (t ∷ []) r.0 in
    record {
      before = done;
      rest = r.0;
      arguments = subst (HasArguments done) same p.0;
      count = omega arith;
      is = subst (λ y. grown done (x ∷ nodes) ≡ done ++ tree_in done y ∷ r.0) same whole;
    }
stands done (x ∷ nodes) (suc k) node p h =
    let t = tree_in done x in
    let long : length (done ++ t ∷ []) ≡ length done + 1 = simp length-append (omega arith) in
    let s = stands (done ++ t ∷ []) nodes k node p.1 h in
    let count : length s.before ≡ length (done ++ t ∷ []) + k = s.count in
    record { before = s.before; rest = s.rest; arguments = s.arguments; count = omega arith; is = s.is }

pub pool_at : (nodes : List Node) (k : ℕ) (node : Node) → IsPool [] nodes → slice_get nodes k ≡ Some node → HasArguments (trees nodes) node
pool_at nodes k node p h =
    let s = stands [] nodes k node p h in
    subst (λ ts. HasArguments ts node) (sym s.is) (HasArguments-append s.before (tree_in s.before node ∷ s.rest) node s.arguments)

pub below_at : (nodes : List Node) (k : ℕ) (node : Node) → IsPool [] nodes → slice_get nodes k ≡ Some node → HasArgumentsBelow k node
below_at nodes k node p h =
    let s = stands [] nodes k node p h in
    let count : length s.before ≡ 0 + k = s.count in
    let same : length s.before ≡ k = omega arith in
    subst (λ n. HasArgumentsBelow n node) same (arguments_below s.before node s.arguments)

-- the tree at a place is that of its node
pub tree_at-trees : (nodes : List Node) (k : ℕ) (node : Node) → IsPool [] nodes → slice_get nodes k ≡ Some node → tree_at (trees nodes) k ≡ tree_in (trees nodes) node
tree_at-trees nodes k node p h =
    let s = stands [] nodes k node p h in
    let t = tree_in s.before node in
    let count : length s.before ≡ 0 + k = s.count in
    let same : k ≡ length s.before = omega arith in
    let there : tree_at (s.before ++ t ∷ s.rest) (length s.before) ≡ t = grind (arith, common_steps) in
    ap (tree_at (trees nodes)) same ∙ ap (λ ts. tree_at ts (length s.before)) s.is ∙ there
    ∙ sym (tree_in-append s.before (t ∷ s.rest) node s.arguments) ∙ ap (λ ts. tree_in ts node) (sym s.is)
