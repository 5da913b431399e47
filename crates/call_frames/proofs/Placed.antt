-- Dummies that are put for actuals, the last one first.
use Rattle.std.proofs.Common.{◌≡◌, ℕ, zero, suc, ◌<◌, ◌≤◌, min, List, [], ◌∷◌, length, drop, get_or, map, refl, sym, ap, ◌∙◌, arith}
use Rattle.formula.specs.Pool.{tree_of}
use Rattle.formula.specs.Tree.{Tree}
use Rattle.formula.specs.declared.node.Node.{Node}
use Rattle.formula.specs.declared.node.TermId.{TermId}
use Rattle.fort_model.specs.Seen.{Named}
use Rattle.fort_model.specs.WalkStmt.{with_name}
use Rattle.fort_syntax.specs.declared.name.Name.{Name}
use Rattle.walk_names.specs.declared.names.Names.{Names}
use Rattle.walk_names.specs.Names.{IsNames, named}
use Rattle.walk_names.proofs.NameTables.{extends_more, extends_not}
use Rattle.call_frames.specs.Frames.{IsPlaced, IsPut, with_terms}

no_terms : (ds : List Name) (before : Named Tree) (x : Name) → with_terms ds [] before x ≡ before x
no_terms [] before x = refl
no_terms (d ∷ ds) before x = refl

-- beyond the shorter of two lists there is nothing to put
none_left : (ds : List Name) (ts : List Tree) (k : ℕ) (before : Named Tree) (x : Name) → min (length ds) (length ts) ≤ k → with_terms (drop k ds) (drop k ts) before x ≡ before x
none_left [] ts zero before x h = refl
none_left [] ts (suc k) before x h = refl
none_left (d ∷ ds) [] zero before x h = refl
none_left (d ∷ ds) [] (suc k) before x h = no_terms (drop k ds) before x
none_left (d ∷ ds) (t ∷ ts) zero before x h = absurd (omega arith)
none_left (d ∷ ds) (t ∷ ts) (suc k) before x h = none_left ds ts k before x (omega arith)

pub length_map : (f : TermId → Tree) (ids : List TermId) → length (map f ids) ≡ length ids
length_map f [] = refl
length_map f (id ∷ ids) = ap suc (length_map f ids)

pub placed_none : (nodes : List Node) (names : Names) (ds : List Name) (ids : List TermId) (k : ℕ) → IsNames nodes names → min (length ds) (length ids) ≤ k
    → IsPlaced nodes names nodes names (drop k ds) (drop k (map (tree_of nodes) ids))
placed_none nodes names ds ids k h le =
    let long = length_map (tree_of nodes) ids in
    let over : min (length ds) (length (map (tree_of nodes) ids)) ≤ k = omega (arith, long, le) in
    record { kept = h; now = λ i x. sym (none_left ds (map (tree_of nodes) ids) k (named nodes names) x over) i; extends = extends_not names.table }

one_placed : (f : TermId → Tree) (ds : List Name) (ids : List TermId) (k : ℕ) (d : Name) (e : TermId) (before : Named Tree) (y : Name) → k < length ds → k < length ids
    → with_name (with_terms (drop (suc k) ds) (drop (suc k) (map f ids)) before) (get_or ds k d) (f (get_or ids k e)) y ≡ with_terms (drop k ds) (drop k (map f ids)) before y
one_placed f [] ids k d e before y h l = absurd (omega arith)
one_placed f (x ∷ ds) [] k d e before y h l = absurd (omega arith)
one_placed f (x ∷ ds) (id ∷ ids) zero d e before y h l = refl
one_placed f (x ∷ ds) (id ∷ ids) (suc k) d e before y h l = one_placed f ds ids k d e before y (omega arith) (omega arith)

-- one dummy more, in front
pub placed_more : (n0 n1 n2 : List Node) (a b c : Names) (f : TermId → Tree) (ds : List Name) (ids : List TermId) (k n : ℕ) (d x : Name) (e : TermId) (t : Tree)
    → IsPlaced n0 a n1 b (drop n ds) (drop n (map f ids)) → IsPut n1 b n2 c x t → x ≡ get_or ds k d → t ≡ f (get_or ids k e) → n ≡ suc k → k < length ds → k < length ids
    → IsPlaced n0 a n2 c (drop k ds) (drop k (map f ids))
placed_more n0 n1 n2 a b c f ds ids k n d x e t p q is tree next h l = record {
  kept = q.kept;
  now =
      q.now ∙ (λ i. with_name (p.now i) (is i) (tree i))
      ∙ (λ i. with_name (with_terms (drop (next i) ds) (drop (next i) (map f ids)) (named n0 a)) (get_or ds k d) (f (get_or ids k e)))
      ∙ (λ i y. one_placed f ds ids k d e (named n0 a) y h l i);
  extends = extends_more a.table b.table c.table p.extends q.extends;
}
