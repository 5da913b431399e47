-- No two ids of a pool stand for one tree.
use Rattle.std.proofs.Common.{◌≡◌, ℕ, zero, suc, ◌<◌, ◌≤◌, true, false, List, [], ◌∷◌, length, Some, refl, sym, ap, ◌∙◌, subst, arith, true≢false, slice_get, get_or}
use Rattle.std.specs.List.{IsDistinct, AllByRecursion}
use Rattle.std.proofs.lemmas.Map.Keys.{IsDistinct-head, IsDistinct-tail}
use Rattle.std.proofs.lemmas.Option.{slice_get-get_or}
use Rattle.formula.specs.declared.node.Node.{Node}
use Rattle.formula.specs.declared.node.Node.TheVariants.{Num, Truth, Symbol, Old, Apply}
use Rattle.formula.specs.declared.node.TermId.{TermId}
use Rattle.formula.specs.Tree.{Tree}
use Rattle.formula.specs.Pool.{AllBelow, HasArgumentsBelow, HasOneIdEach, IsPool, row_in, tree_at, tree_in, trees}
use Rattle.formula.specs.contracts.node.NodePartialEq.TheImpl.{ghosts as node_ghosts}
use Rattle.formula.specs.contracts.node.NodeEq.TheImpl.Laws.{laws-law}
use Rattle.formula.proofs.Growth.{AllBelow-more, below_at, tree_at-trees}

-- ---- equal nodes have one place

-- a node equals itself
self_equal : (node : Node) → node_ghosts.eq node node ≡ true
self_equal node = laws-law.refl node

not_behind : (x : Node) (rest : List Node) (k : ℕ) → AllByRecursion (λ y. node_ghosts.eq x y ≡ false) rest → ¬ (slice_get rest k ≡ Some x)
not_behind x [] k all got = absurd (cc)
not_behind x (y ∷ rest) zero all got =
    let same : y ≡ x = cc in
    true≢false (sym (self_equal x) ∙ subst (λ z. node_ghosts.eq x z ≡ false) same all.0)
not_behind x (y ∷ rest) (suc k) all got = not_behind x rest k all.1 got

one_place : (nodes : List Node) (i j : ℕ) (node : Node) → IsDistinct node_ghosts.eq nodes → slice_get nodes i ≡ Some node → slice_get nodes j ≡ Some node → i ≡ j
one_place [] i j node d p q = absurd (cc)
one_place (x ∷ nodes) zero zero node d p q = refl
one_place (x ∷ nodes) zero (suc j) node d p q =
    let same : node ≡ x = cc in
    absurd (not_behind x nodes j (IsDistinct-head node_ghosts.eq x nodes d) (subst (λ z. slice_get nodes j ≡ Some z) same q))
one_place (x ∷ nodes) (suc i) zero node d p q =
    let same : node ≡ x = cc in
    absurd (not_behind x nodes i (IsDistinct-head node_ghosts.eq x nodes d) (subst (λ z. slice_get nodes i ≡ Some z) same p))
one_place (x ∷ nodes) (suc i) (suc j) node d p q = ap suc (one_place nodes i j node (IsDistinct-tail node_ghosts.eq x nodes d) p q)

-- ---- equal trees come from equal nodes

-- two places before n and m with one tree are one
abbrev Alike : List Tree → ℕ → ℕ → Type 0
Alike ts n m = (a b : ℕ) → a < n → b < m → tree_at ts a ≡ tree_at ts b → a ≡ b

same_arguments : (ts : List Tree) (n m : ℕ) (xs ys : List TermId) → Alike ts n m → AllBelow n xs → AllBelow m ys → row_in ts xs ≡ row_in ts ys → xs ≡ ys
same_arguments ts n m [] [] alike hx hy e = refl
same_arguments ts n m [] (y ∷ ys) alike hx hy e = absurd (cc)
same_arguments ts n m (x ∷ xs) [] alike hx hy e = absurd (cc)
same_arguments ts n m (x ∷ xs) (y ∷ ys) alike hx hy e =
    let head : tree_at ts x.place ≡ tree_at ts y.place = cc in
    let tail : row_in ts xs ≡ row_in ts ys = cc in
    let same = alike x.place y.place hx.0 hy.0 head in
    let others = same_arguments ts n m xs ys alike hx.1 hy.1 tail in
    λ i. record { place = same i } ∷ others i

same_node : (ts : List Tree) (n m : ℕ) (x y : Node) → Alike ts n m → HasArgumentsBelow n x → HasArgumentsBelow m y → tree_in ts x ≡ tree_in ts y → x ≡ y
same_node ts n m (Num x) (Num y) alike hx hy e = cc
same_node ts n m (Truth x) (Truth y) alike hx hy e = cc
same_node ts n m (Symbol x) (Symbol y) alike hx hy e = cc
same_node ts n m (Old x) (Old y) alike hx hy e = cc
same_node ts n m (Apply f xs) (Apply g ys) alike hx hy e =
    let rows : row_in ts xs ≡ row_in ts ys = cc in
    let args = same_arguments ts n m xs ys alike hx hy rows in
    cc
same_node _ _ _ _ _ _ _ _ e = absurd (cc)

below_more : (n m : ℕ) (node : Node) → n ≤ m → HasArgumentsBelow n node → HasArgumentsBelow m node
below_more n m (Num z) le h = tt
below_more n m (Truth b) le h = tt
below_more n m (Symbol s) le h = tt
below_more n m (Old s) le h = tt
below_more n m (Apply f args) le h = AllBelow-more n m args le h

nowhere : Node
nowhere = Truth false

alike : (nodes : List Node) (n : ℕ) → n ≤ length nodes → IsPool [] nodes → IsDistinct node_ghosts.eq nodes → Alike (trees nodes) n (length nodes)
alike nodes zero le p d a b ha hb e = absurd (omega arith)
alike nodes (suc n) le p d a b ha hb e =
    let le_a : a ≤ n = omega arith in
    let le_b : b ≤ length nodes = omega arith in
    let lower : n ≤ length nodes = omega arith in
    let in_a : a < length nodes = omega arith in
    let x = get_or nodes a nowhere in
    let y = get_or nodes b nowhere in
    let got_x : slice_get nodes a ≡ Some x = slice_get-get_or nodes a nowhere in_a in
    let got_y : slice_get nodes b ≡ Some y = slice_get-get_or nodes b nowhere hb in
    let trees_same : tree_in (trees nodes) x ≡ tree_in (trees nodes) y = sym (tree_at-trees nodes a x p got_x) ∙ e ∙ tree_at-trees nodes b y p got_y in
    let same : x ≡ y =
    same_node (trees nodes) n (length nodes) x y (alike nodes n lower p d)
    (below_more a n x le_a (below_at nodes a x p got_x)) (below_more b (length nodes) y le_b (below_at nodes b y p got_y)) trees_same in
    one_place nodes a b x d got_x (got_y ∙ ap Some (sym same))

pub one_id_each : (nodes : List Node) → IsPool [] nodes → IsDistinct node_ghosts.eq nodes → HasOneIdEach nodes
one_id_each nodes p d a b ha hb e = alike nodes (length nodes) (omega arith) p d a.place b.place ha hb e
