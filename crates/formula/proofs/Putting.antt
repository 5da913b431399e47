-- A pool after a node is put in.
use Rattle.std.proofs.Common.{◌≡◌, ℕ, ◌+◌, ◌<◌, ◌≤◌, ◌^◌, map, take, Bool, true, false, List, [], ◌∷◌, ◌++◌, length, refl, sym, ap, ◌∙◌, true≢false, if◌then◌else◌, Contains, subst, slice_get, Some, get_or, arith, length-append}
use Rattle.std.specs.List.{list_any, position}
use Rattle.std.proofs.lemmas.Grind.{common_steps}
use Rattle.std.proofs.lemmas.List.{length-map, map-append}
use Rattle.std.proofs.lemmas.List.Quantifiers.{position-Some}
use Rattle.std.proofs.lemmas.Option.{slice_get-get_or}
use Rattle.std.proofs.lemmas.Map.Views.{list_any-from_Contains}
use Rattle.indexmap.specs.IndexSet.{insert_key}
use Rattle.indexmap.proofs.CallerLemmas.{Contains-list_any}
use Rattle.formula.specs.declared.node.Node.{Node}
use Rattle.formula.specs.declared.node.TermId.{TermId}
use Rattle.formula.specs.contracts.node.NodePartialEq.TheImpl.{ghosts as node_ghosts}
use Rattle.formula.specs.contracts.node.NodeEq.TheImpl.Laws.{laws-law}
use Rattle.formula.specs.declared.facts.Facts.{Facts}
use Rattle.formula.specs.Facts.{depth, facts_in, facts_of}
use Rattle.formula.specs.Kept.{IsKept}
use Rattle.formula.specs.Pool.{HasArguments, HasArgumentsBelow, IsPool, Grows, trees, tree_in, tree_of}
use Rattle.formula.proofs.Same.{same_node}
use Rattle.formula.proofs.FactsTold.{depth_at, facts_of_node, node_depth}
use Rattle.formula.proofs.Growth.{IsPool-append, arguments_below, grown-append, length-trees, tree_at-trees, tree_in-append}
use Rattle.formula.proofs.Grown.{trees-Grows}

-- ---- a node that is looked up

-- where a test finds no equal node, there is none
pub absent : (nodes : List Node) (node : Node) → list_any (node_ghosts.eq node) nodes ≡ false → ¬ Contains nodes node
absent nodes node was there = true≢false (sym (list_any-from_Contains laws-law node nodes there) ∙ was)

-- where it finds one, there is one
pub present : (nodes : List Node) (node : Node) → list_any (node_ghosts.eq node) nodes ≡ true → Contains nodes node
present nodes node was = Contains-list_any node_ghosts.eq same_node nodes node was

-- and the node at the place that it finds is that node
pub known_at : (nodes : List Node) (node : Node) (place : ℕ) → Some place ≡ position (node_ghosts.eq node) nodes → slice_get nodes place ≡ Some node
known_at nodes node place e =
    let r = position-Some (node_ghosts.eq node) nodes place node (sym e) in
    slice_get-get_or nodes place node r.0 ∙ ap Some (sym (same_node node (get_or nodes place node) r.1))

-- ---- a node that is put behind the others

by_test : (nodes after : List Node) (node : Node) (b : Bool) → list_any (node_ghosts.eq node) nodes ≡ b → ¬ Contains nodes node → after ≡ (if b then nodes else nodes ++ node ∷ []) → after ≡ nodes ++ node ∷ []
by_test nodes after node true was unknown e = absurd (unknown (present nodes node was))
by_test nodes after node false was unknown e = e

pub behind : (nodes after : List Node) (node : Node) → ¬ Contains nodes node → after ≡ insert_key node_ghosts.eq nodes node → after ≡ nodes ++ node ∷ []
behind nodes after node unknown e = by_test nodes after node (list_any (node_ghosts.eq node) nodes) refl unknown e

pub Grows-behind : (nodes after : List Node) (node : Node) → after ≡ nodes ++ node ∷ [] → Grows nodes after
Grows-behind nodes after node e = record { added = node ∷ []; is = e }

pub trees-behind : (nodes after : List Node) (node : Node) → after ≡ nodes ++ node ∷ [] → trees after ≡ trees nodes ++ tree_in (trees nodes) node ∷ []
trees-behind nodes after node e = ap trees e ∙ grown-append [] nodes (node ∷ [])

-- the facts of the terms before a node tell those of its own
pub facts-before : (nodes : List Node) (facts : List Facts) (node : Node) → IsKept nodes facts → HasArguments (trees nodes) node → facts_in facts node ≡ facts_of (tree_in (trees nodes) node)
facts-before nodes facts node ok h = ap (λ fs. facts_in fs node) ok.told ∙ facts_of_node (trees nodes) node h

pub below-before : (nodes : List Node) (facts : List Facts) (node : Node) → IsKept nodes facts → HasArguments (trees nodes) node → HasArgumentsBelow (length facts) node
below-before nodes facts node ok h =
    let count : length facts ≡ length (trees nodes) = ap length ok.told ∙ length-map (trees nodes) facts_of in
    subst (λ n. HasArgumentsBelow n node) (sym count) (arguments_below (trees nodes) node h)

-- and a pool that is not full has room for its depth
pub shallow-before : (nodes : List Node) (facts : List Facts) (node : Node) → IsKept nodes facts → HasArguments (trees nodes) node → length nodes + 1 < 2 ^ 32 → (facts_in facts node).depth < 2 ^ 32
shallow-before nodes facts node ok h short =
    let count : length (trees nodes) ≡ length nodes = length-trees nodes in
    let below = subst (λ n. HasArgumentsBelow n node) count (arguments_below (trees nodes) node h) in
    let deep : depth (tree_in (trees nodes) node) ≤ length nodes + 1 = node_depth (trees nodes) (length nodes) node below (λ j before. depth_at nodes j ok.pool before) in
    let same : (facts_in facts node).depth ≡ depth (tree_in (trees nodes) node) = ap (λ f. f.depth) (facts-before nodes facts node ok h) in
    omega arith

pub IsKept-behind : (nodes after : List Node) (facts more : List Facts) (node : Node) → after ≡ nodes ++ node ∷ [] → more ≡ facts ++ facts_in facts node ∷ []
    → length nodes + 1 < 2 ^ 32 → IsKept nodes facts → HasArguments (trees nodes) node → IsKept after more
IsKept-behind nodes after facts more node e told short ok h = record {
  pool = subst (IsPool []) (sym e) (IsPool-append [] nodes node ok.pool h);
  small = let long : length after ≡ length (nodes ++ node ∷ []) = ap length e in omega (arith, simp length-append at long);
  told =
      told ∙ (λ i. ok.told i ++ facts-before nodes facts node ok h i ∷ []) ∙ sym (map-append facts_of (trees nodes) (tree_in (trees nodes) node ∷ []))
      ∙ ap (map facts_of) (sym (trees-behind nodes after node e));
}

-- a node that found no room leaves no facts
pub IsKept-back : (nodes same : List Node) (facts more cut : List Facts) (f : Facts) → same ≡ nodes → more ≡ facts ++ f ∷ [] → cut ≡ take (length nodes) more → IsKept nodes facts → IsKept same cut
IsKept-back nodes same facts more cut f is longer back ok =
    let count : length nodes ≡ length facts = sym (ap length ok.told ∙ length-map (trees nodes) facts_of ∙ length-trees nodes) in
    let whole : take (length facts) (facts ++ f ∷ []) ≡ facts = grind (arith, common_steps) in
    let cut_is : cut ≡ facts = back ∙ (λ i. take (count i) (longer i)) ∙ whole in
    subst (λ ns. IsKept ns cut) (sym is) (subst (λ fs. IsKept nodes fs) (sym cut_is) ok)

last-there : (nodes : List Node) (node : Node) → slice_get (nodes ++ node ∷ []) (length nodes) ≡ Some node
last-there [] node = refl
last-there (x ∷ nodes) node = last-there nodes node

pub last-behind : (nodes after : List Node) (node : Node) → after ≡ nodes ++ node ∷ [] → slice_get after (length nodes) ≡ Some node
last-behind nodes after node e = ap (λ ns. slice_get ns (length nodes)) e ∙ last-there nodes node

-- its tree is that over the earlier trees
pub tree_of-behind : (nodes after : List Node) (node : Node) (id : TermId) → after ≡ nodes ++ node ∷ [] → IsPool [] nodes → HasArguments (trees nodes) node
    → slice_get after id.place ≡ Some node → tree_of after id ≡ tree_in (trees nodes) node
tree_of-behind nodes after node id e ok h got =
    let r = trees-Grows nodes after (Grows-behind nodes after node e) in
    tree_at-trees after id.place node (subst (IsPool []) (sym e) (IsPool-append [] nodes node ok h)) got
    ∙ ap (λ ts. tree_in ts node) r.1 ∙ tree_in-append (trees nodes) r.0 node h
