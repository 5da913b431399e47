-- Terms that are put behind others, one after another.
use Rattle.std.proofs.Common.{◌≡◌, ℕ, zero, suc, ◌-◌, ◌<◌, ◌≤◌, List, [], ◌∷◌, ◌++◌, map, length, take, drop, get_or, refl, sym, ap, ◌∙◌, subst, arith}
use Rattle.std.proofs.lemmas.Grind.{common_steps}
use Rattle.formula.specs.Pool.{AllBelow, Grows, IsIn, tree_of}
use Rattle.formula.specs.Tree.{Tree}
use Rattle.formula.specs.declared.node.Node.{Node}
use Rattle.formula.specs.declared.node.TermId.{TermId}
use Rattle.formula.proofs.Grown.{AllBelow-Grows, Grows-refl, Grows-trans, tree_of-Grows}
use Rattle.note_terms.specs.Stated.{Makes, below, falls_in, trees_in}

pub trees_grow : (old new : List Node) (ids : List TermId) → Grows old new → AllBelow (length old) ids → trees_in new ids ≡ trees_in old ids
trees_grow old new [] g h = refl
trees_grow old new (id ∷ rest) g h = λ i. tree_of-Grows old new id g h.0 i ∷ trees_grow old new rest g h.1 i

below_behind : (n : ℕ) (ids : List TermId) (id : TermId) → AllBelow n ids → id.place < n → AllBelow n (ids ++ id ∷ [])
below_behind n [] id h k = (k, tt)
below_behind n (x ∷ ids) id h k = (h.0, below_behind n ids id h.1 k)

trees_behind : (nodes : List Node) (ids : List TermId) (id : TermId) → trees_in nodes (ids ++ id ∷ []) ≡ trees_in nodes ids ++ tree_of nodes id ∷ []
trees_behind nodes [] id = refl
trees_behind nodes (x ∷ ids) id = ap (λ ts. tree_of nodes x ∷ ts) (trees_behind nodes ids id)

-- no ids yet
pub makes_none : (nodes : List Node) (ids : List TermId) (made : List Tree) → ids ≡ [] → made ≡ [] → Makes nodes nodes ids made
makes_none nodes ids made e f = record {
  grows = Grows-refl nodes;
  known = subst (AllBelow (length nodes)) (sym e) tt;
  is = ap (trees_in nodes) e ∙ sym f;
}

-- the same ids, while the pool grows
pub makes_still : (a b c : List Node) (ids : List TermId) (ts : List Tree) → Makes a b ids ts → Grows b c → Makes a c ids ts
makes_still a b c ids ts m g = record {
  grows = Grows-trans a b c m.grows g;
  known = AllBelow-Grows b c ids g m.known;
  is = trees_grow b c ids g m.known ∙ m.is;
}

-- one more
pub makes_more : (a b c : List Node) (ids after : List TermId) (id : TermId) (t : Tree) (ts made : List Tree) → Makes a b ids ts → Grows b c → IsIn c id → tree_of c id ≡ t
    → after ≡ ids ++ id ∷ [] → made ≡ ts ++ t ∷ [] → Makes a c after made
makes_more a b c ids after id t ts made m g k same e f =
    let s = makes_still a b c ids ts m g in
    record {
      grows = s.grows;
      known = subst (AllBelow (length c)) (sym e) (below_behind (length c) ids id s.known k);
      is = ap (trees_in c) e ∙ (trees_behind c ids id ∙ ((λ i. s.is i ++ same i ∷ []) ∙ sym f));
    }

-- what is made of one more of some things
pub made_more : (f : Tree → Tree) (nodes : List Node) (ids : List TermId) (k n : ℕ) (d : TermId) → k < length ids → n ≡ suc k
    → map f (trees_in nodes (take n ids)) ≡ map f (trees_in nodes (take k ids)) ++ f (tree_of nodes (get_or ids k d)) ∷ []
made_more f nodes ids k n d lt e = ap (λ (m : ℕ). map f (trees_in nodes (take m ids))) e ∙ more f nodes ids k d lt
  where
    more : (f : Tree → Tree) (nodes : List Node) (ids : List TermId) (k : ℕ) (d : TermId) → k < length ids
        → map f (trees_in nodes (take (suc k) ids)) ≡ map f (trees_in nodes (take k ids)) ++ f (tree_of nodes (get_or ids k d)) ∷ []
    more f nodes [] k d lt = absurd (omega arith)
    more f nodes (x ∷ ids) zero d lt = refl
    more f nodes (x ∷ ids) (suc k) d lt = ap (λ ts. f (tree_of nodes x) ∷ ts) (more f nodes ids k d (omega arith))

-- of all of them
pub made_all : (f : Tree → Tree) (nodes : List Node) (ids : List TermId) (k : ℕ) → length ids ≤ k → map f (trees_in nodes (take k ids)) ≡ map f (trees_in nodes ids)
made_all f nodes ids k le = ap (λ (xs : List TermId). map f (trees_in nodes xs)) (all ids k le)
  where
    all : (ids : List TermId) (k : ℕ) → length ids ≤ k → take k ids ≡ ids
    all ids k le = grind (arith, common_steps)

-- one of some ids
pub below_at : (n : ℕ) (ids : List TermId) (k : ℕ) (d : TermId) → AllBelow n ids → k < length ids → (get_or ids k d).place < n
below_at n [] k d h lt = absurd (omega arith)
below_at n (x ∷ ids) zero d h lt = h.0
below_at n (x ∷ ids) (suc k) d h lt = below_at n ids k d h.1 (omega arith)

-- parts of a clock that are two at least, on both sides
pub falls_more : (nodes : List Node) (new was : List TermId) (d : TermId) → 2 ≤ length new → 2 ≤ length was
    → falls_in (trees_in nodes new) (trees_in nodes was)
    ≡ below (tree_of nodes (get_or new 0 d)) (tree_of nodes (get_or was 0 d))
    (falls_in (trees_in nodes (take (length new - 1) (drop 1 new))) (trees_in nodes (take (length was - 1) (drop 1 was))))
falls_more nodes [] was d h k = absurd (omega arith)
falls_more nodes (n ∷ []) was d h k = absurd (omega arith)
falls_more nodes (n ∷ (m ∷ new)) [] d h k = absurd (omega arith)
falls_more nodes (n ∷ (m ∷ new)) (o ∷ []) d h k = absurd (omega arith)
falls_more nodes (n ∷ (m ∷ new)) (o ∷ (q ∷ was)) d h k =
    λ i. below (tree_of nodes n) (tree_of nodes o) (falls_in (trees_in nodes (sym (rest n (m ∷ new)) i)) (trees_in nodes (sym (rest o (q ∷ was)) i)))
  where
    rest : (x : TermId) (ids : List TermId) → take (length (x ∷ ids) - 1) (drop 1 (x ∷ ids)) ≡ ids
    rest x ids = grind (arith, common_steps)
