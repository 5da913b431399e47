-- Facts and checks one behind another.
use Rattle.std.proofs.Common.{◌≡◌, ℕ, suc, ◌<◌, ◌≤◌, List, [], ◌∷◌, ◌++◌, length, map, take, get_or, refl, ap, ◌∙◌}
use Rattle.formula.specs.Pool.{AllBelow, Grows, tree_of}
use Rattle.formula.specs.Tree.{Tree}
use Rattle.formula.specs.declared.node.Node.{Node}
use Rattle.formula.specs.declared.node.TermId.{TermId}
use Rattle.formula.proofs.Grown.{tree_of-Grows}
use Rattle.fort_syntax.specs.declared.condition.Kind.{Kind}
use Rattle.fort_model.specs.Events.{Check, Event, Take, checks, takes}
use Rattle.fort_model.specs.Seen.{meet}
use Rattle.note_terms.specs.Stated.{trees_in}
use Rattle.note_terms.proofs.Added.{below_at}
use Rattle.walk_state.specs.Moments.{Did, Moment, met, with_event}
use Rattle.call_facts.proofs.Behind.{check_all, check_more, take_all, take_more}

abbrev pub told : List Tree → List Tree
told ts = map (λ (t : Tree). t) ts

untold : (ts : List Tree) → map (λ (t : Tree). t) ts ≡ ts
untold [] = refl
untold (t ∷ ts) = ap (λ (us : List Tree). t ∷ us) (untold ts)

-- the tree of one of some ids stays
pub tree_stays : (p0 p1 : List Node) (ids : List TermId) (k : ℕ) (d : TermId) → Grows p0 p1 → AllBelow (length p0) ids → k < length ids
    → tree_of p1 (get_or ids k d) ≡ tree_of p0 (get_or ids k d)
tree_stays p0 p1 ids k d g h lt = tree_of-Grows p0 p1 (get_or ids k d) g (below_at (length p0) ids k d h lt)

pub took_more : (m0 m1 m2 : Moment) (nodes : List Node) (ids : List TermId) (k n : ℕ) (d : TermId) (t : Tree)
    → m1 ≡ met m0 (meet (takes (told (trees_in nodes (take k ids))))) → m2 ≡ with_event m1 (Take t) → t ≡ tree_of nodes (get_or ids k d)
    → k < length ids → n ≡ suc k → m2 ≡ met m0 (meet (takes (told (trees_in nodes (take n ids)))))
took_more m0 m1 m2 nodes ids k n d t one two is lt next = take_more (λ (s : Tree). s) m0 m1 m1 m2 nodes ids k n d t one refl two is lt next

pub checked_more : (m0 m1 m2 : Moment) (nodes : List Node) (kind : Kind) (card : ℕ) (ids : List TermId) (k n : ℕ) (d : TermId) (t : Tree)
    → m1 ≡ met m0 (meet (checks kind card (told (trees_in nodes (take k ids))))) → m2 ≡ with_event m1 (Check kind card t) → t ≡ tree_of nodes (get_or ids k d)
    → k < length ids → n ≡ suc k → m2 ≡ met m0 (meet (checks kind card (told (trees_in nodes (take n ids)))))
checked_more m0 m1 m2 nodes kind card ids k n d t one two is lt next = check_more (λ (s : Tree). s) m0 m1 m1 m2 nodes kind card ids k n d t one refl two is lt next

pub took_all : (m0 m1 : Moment) (nodes : List Node) (ids : List TermId) (k : ℕ) → m1 ≡ met m0 (meet (takes (told (trees_in nodes (take k ids))))) → length ids ≤ k
    → Did m0 (meet (takes (trees_in nodes ids))) m1 tt
took_all m0 m1 nodes ids k h le =
    let d = take_all (λ (s : Tree). s) m0 m1 nodes ids k h le in
    record { is = d.is ∙ (λ i. met m0 (meet (takes (untold (trees_in nodes ids) i)))); gives = refl }

pub checked_all : (m0 m1 : Moment) (nodes : List Node) (kind : Kind) (card : ℕ) (ids : List TermId) (k : ℕ) → m1 ≡ met m0 (meet (checks kind card (told (trees_in nodes (take k ids))))) → length ids ≤ k
    → Did m0 (meet (checks kind card (trees_in nodes ids))) m1 tt
checked_all m0 m1 nodes kind card ids k h le =
    let d = check_all (λ (s : Tree). s) m0 m1 nodes kind card ids k h le in
    record { is = d.is ∙ (λ i. met m0 (meet (checks kind card (untold (trees_in nodes ids) i)))); gives = refl }
